-- What a parse finds for the numbers of `within` and of `solve`: where it finds no fault, one for each.
use Rattle.tsumego_words.proofs.Common.{◌≡◌, ℕ, Bool, true, false, cond, not, ◌&&◌, List, [], ◌∷◌, length, codes, find, slice_get, Option, Some, None, is_some, option_map, option_and_then, ◌⊎◌, inl, inr, refl, sym, ◌∙◌, ap, subst, fold, arith, list_any, option_map_or, bytes_eq, digits_value, without_leading_plus, Kinds, Row, Rule, Shape, Text, or_else, Held, finished, nothing_held, settled, used, walk, walk_from, check_fault, defaults_fault, settle_fault, use_fault, is_given, explicit_source, is_unsigned_in, Unsigned, Member, and_left, and_right, and_both, number_in}
use Rattle.std.proofs.Common.{◌==◌, ◌||◌, eqb-true, ◌++◌}
use Rattle.std.specs.List.{list_all}
use Rattle.std.proofs.lemmas.List.Folds.{list_all-append}
use Rattle.clap.specs.Words.{new_rule, read_as}
use Rattle.clap.specs.Kinds.{check_kinds, range_kinds, value_kinds}
use Rattle.clap.specs.Walk.{at_row, default_rows, has_row, more_values, reading_by, row_text, rows_after, values_or_missing, with_default, with_values, without}
use Rattle.clap.specs.Faults.{level_fault, repeat_fault, set_fault, values_fault, walk_fault}
use Rattle.clap.specs.Simple.{filled, help_rule}
use Rattle.clap.specs.Values.{refused_kind}
use Rattle.clap.specs.declared.error.kind.ErrorKind.TheVariants.{InvalidValue, WrongNumberOfValues}
use Rattle.clap.specs.declared.builder.action.ArgAction.TheVariants.{Set}
use Rattle.clap.specs.declared.builder.value_parser.Reading.{Reading}
use Rattle.clap.specs.declared.builder.value_parser.Reading.TheVariants.{AsWritten}
use Rattle.clap.specs.declared.parser.matches.ValueSource.{ValueSource}
use Rattle.clap.specs.declared.parser.matches.ValueSource.TheVariants.{CommandLine, DefaultValue}
use Rattle.go_points.proofs.Lists.{or_cases, or_left, or_right}
use Rattle.tsumego_words.specs.CommandLine.{most_entries, most_nodes, most_steps, most_turns, flag_rule, lift_rule, number_of, proof_rule}
use Rattle.tsumego_words.proofs.SubcommandWalks.{first_none, then_none, walk_fine, end_fine}

-- a row of this argument has a number that fits first
abbrev pub fine_row : Text → ℕ → ℕ → Row → Bool
fine_row id least most r = not (bytes_eq r.id id) || is_some (option_and_then (number_in least most) (row_text r))

abbrev pub all_fine : Text → ℕ → ℕ → List Row → Bool
all_fine id least most rows = list_all (fine_row id least most) rows

at_row_keeps : (f : Row → Bool) (id : Text) (change : Row → List Row) (missing : List Row) → ((r : Row) → f r ≡ true → list_all f (change r) ≡ true) → list_all f missing ≡ true
    → (rows : List Row) → list_all f rows ≡ true → list_all f (at_row id change missing rows) ≡ true
at_row_keeps f id change missing changed new [] h = new
at_row_keeps f id change missing changed new (r ∷ rs) h =
    go (bytes_eq r.id id) (at_row_keeps f id change missing changed new rs (and_right (f r) (list_all f rs) h))
  where
    go : (b : Bool) → list_all f (at_row id change missing rs) ≡ true → list_all f (cond b (change r ++ rs) (r ∷ at_row id change missing rs)) ≡ true
    go true later = list_all-append f (change r) rs ∙ and_both (list_all f (change r)) (list_all f rs) (changed r (and_left (f r) (list_all f rs) h)) (and_right (f r) (list_all f rs) h)
    go false later = and_both (f r) (list_all f (at_row id change missing rs)) (and_left (f r) (list_all f rs) h) later

-- values at the end leave the first as it was
more_keeps : (b : Bool) (how : Reading) (least most : ℕ) (vs more : List Text) → (not b || is_some (option_and_then (number_in least most) (option_map (read_as how) (slice_get vs 0)))) ≡ true
    → (not b || is_some (option_and_then (number_in least most) (option_map (read_as how) (slice_get (vs ++ more) 0)))) ≡ true
more_keeps true how least most [] more h = absurd (cc)
more_keeps false how least most [] more h = refl
more_keeps b how least most (v ∷ vs) more h = h

added_fine : (id : Text) (least most : ℕ) (s : ValueSource) (values : List Text) (r : Row) → fine_row id least most r ≡ true → list_all (fine_row id least most) (more_values s values r) ≡ true
added_fine id least most s values r h = and_both _ true (more_keeps (bytes_eq r.id id) r.reading least most r.values values h) refl

-- a row of these values
abbrev row_with : Text → ValueSource → List Text → Row
row_with at s values = record { id = at; values = values; count = None; source = Some s; reading = AsWritten }

with_values_fine : (id : Text) (least most : ℕ) (at : Text) (s : ValueSource) (values : List Text) → fine_row id least most (row_with at s values) ≡ true
    → (rows : List Row) → all_fine id least most rows ≡ true → all_fine id least most (with_values at AsWritten s values rows) ≡ true
with_values_fine id least most at s values new rows h = at_row_keeps (fine_row id least most) at (more_values s values) _ (added_fine id least most s values) (and_both _ true new refl) rows h

without_fine : (id : Text) (least most : ℕ) (at : Text) (rows : List Row) → all_fine id least most rows ≡ true → all_fine id least most (without at rows) ≡ true
without_fine id least most at rows h = at_row_keeps (fine_row id least most) at (λ _. []) [] (λ r g. refl) refl rows h

-- a use that has no fault has one value, which the parser takes
range_one : (n : ℕ) → range_kinds 1 1 n ≡ [] → n ≡ 1
range_one n h = go (n == 0) (1 == n) refl h
  where
    go : (a b : Bool) → (1 == n) ≡ b → cond a (InvalidValue ∷ []) (cond b [] (WrongNumberOfValues ∷ [])) ≡ [] → n ≡ 1
    go true b e f = absurd (cc)
    go false true e f = sym (eqb-true 1 n e)
    go false false e f = absurd (cc)

one_value : (vs : List Text) → length vs ≡ 1 → (v : Text) × (vs ≡ v ∷ [])
one_value [] e = absurd (omega arith)
one_value (v ∷ []) e = (v, refl)
one_value (v ∷ w ∷ ws) e = absurd (omega arith)

-- an argument with a number, as it is built
abbrev number_rule : Text → Option Text → Option ℕ → ℕ → List Text → ℕ → ℕ → Bool → Rule
number_rule id long index names defaults least most required = record (new_rule id) {
  long = long;
  index = index;
  action = Some Set;
  range = Some (record { start_inclusive = 1; end_inclusive = 1 });
  value_names = names;
  defaults = defaults;
  parser = Some (Unsigned least most);
  required = required;
}

-- the rules of `within`, as they are built
abbrev turns_built : Rule
turns_built = number_rule (codes "K") None (Some 1) 0 [] 0 most_turns true

abbrev nodes_built : Rule
nodes_built = number_rule (codes "nodes") (Some (codes "nodes")) None 1 (codes "1000000" ∷ []) 0 most_nodes false

abbrev within_rules : List Rule
within_rules = turns_built ∷ nodes_built ∷ filled help_rule ∷ []

-- and those of `solve`
abbrev steps_built : Rule
steps_built = number_rule (codes "steps") (Some (codes "steps")) None 1 (codes "1000000" ∷ []) 1 most_steps false

abbrev table_built : Rule
table_built = number_rule (codes "table") (Some (codes "table")) None 1 (codes "100000" ∷ []) 1 most_entries false

abbrev solve_rules : List Rule
solve_rules = steps_built ∷ table_built ∷ filled proof_rule ∷ filled lift_rule ∷ filled help_rule ∷ []

-- each use of this argument that has no fault keeps the rows fine, and so does its default
abbrev UseKeeps : Text → ℕ → ℕ → Rule → Type 0
UseKeeps id least most a = (again : Bool) (values : List Text) (rows : List Row) → use_fault again a values rows ≡ [] → all_fine id least most rows ≡ true → all_fine id least most (used a values rows) ≡ true

abbrev DefaultKeeps : Text → ℕ → ℕ → Rule → Type 0
DefaultKeeps id least most a = (rows : List Row) → all_fine id least most rows ≡ true → all_fine id least most (with_default rows a) ≡ true

abbrev pub Keeps : Text → ℕ → ℕ → List Rule → Type 0
Keeps id least most [] = Unit {0}
Keeps id least most (a ∷ rest) = UseKeeps id least most a × DefaultKeeps id least most a × Keeps id least most rest

-- a use of an argument with a number, of which each that is taken makes a fine row
number_used : (at : Text) (long : Option Text) (index : Option ℕ) (names : ℕ) (defaults : List Text) (l m : ℕ) (required : Bool) (id : Text) (least most : ℕ)
    → ((v : Text) → is_unsigned_in l m v ≡ true → fine_row id least most (row_with at CommandLine (v ∷ [])) ≡ true)
    → UseKeeps id least most (number_rule at long index names defaults l m required)
number_used at long index names defaults l m required id least most new again values rows none fine =
    let a : Rule = number_rule at long index names defaults l m required in
    let one = one_value values (range_one (length values) (first_none (range_kinds 1 1 (length values)) (set_fault again a (values_or_missing a values) rows) none)) in
    let set : set_fault again a (one.0 ∷ []) rows ≡ [] = subst (λ vs. set_fault again a (values_or_missing a vs) rows ≡ []) one.1 (then_none (range_kinds 1 1 (length values)) (set_fault again a (values_or_missing a values) rows) none) in
    let value : value_kinds false (Unsigned l m) one.0 ≡ [] = first_none (value_kinds false (Unsigned l m) one.0) [] (then_none (repeat_fault again at rows) (values_fault a (one.0 ∷ [])) set) in
    subst (λ vs. all_fine id least most (with_values at AsWritten CommandLine (values_or_missing a vs) (without at rows)) ≡ true) (sym one.1)
    (with_values_fine id least most at CommandLine (one.0 ∷ []) (new one.0 (taken one.0 (is_unsigned_in l m one.0) refl value)) (without at rows) (without_fine id least most at rows fine))
  where
    taken : (v : Text) (b : Bool) → is_unsigned_in l m v ≡ b → cond b [] (refused_kind (Unsigned l m) ∷ []) ≡ [] → is_unsigned_in l m v ≡ true
    taken v true e f = e
    taken v false e f = absurd (cc)

-- an argument of another name makes rows that are fine whatever they hold
other_row : (id : Text) (least most : ℕ) (at : Text) → bytes_eq at id ≡ false → (s : ValueSource) (values : List Text) → fine_row id least most (row_with at s values) ≡ true
other_row id least most at other s values = ap (λ b. not b || is_some (option_and_then (number_in least most) (row_text (row_with at s values)))) other

own_row : (id : Text) (least most : ℕ) (v : Text) → is_unsigned_in least most v ≡ true → (s : ValueSource) → fine_row id least most (row_with id s (v ∷ [])) ≡ true
own_row id least most v taken s = or_right (not (bytes_eq id id)) _ (ap (λ b. is_some (cond b (Some (digits_value 10 (without_leading_plus v))) None)) taken)

own_used : (id : Text) (long : Option Text) (index : Option ℕ) (names : ℕ) (defaults : List Text) (least most : ℕ) (required : Bool)
    → UseKeeps id least most (number_rule id long index names defaults least most required)
own_used id long index names defaults least most required =
    number_used id long index names defaults least most required id least most (λ v taken. own_row id least most v taken CommandLine)

other_used : (id : Text) (least most : ℕ) (at : Text) (long : Option Text) (index : Option ℕ) (names : ℕ) (defaults : List Text) (l m : ℕ) (required : Bool) → bytes_eq at id ≡ false
    → UseKeeps id least most (number_rule at long index names defaults l m required)
other_used id least most at long index names defaults l m required other =
    number_used at long index names defaults l m required id least most (λ v taken. other_row id least most at other CommandLine (v ∷ []))

flag_used : (at id : Text) (least most : ℕ) → bytes_eq at id ≡ false → UseKeeps id least most (filled (flag_rule at))
flag_used at id least most other again values rows none fine =
    with_values_fine id least most at CommandLine (values_or_missing (filled (flag_rule at)) values) (other_row id least most at other CommandLine (values_or_missing (filled (flag_rule at)) values))
    (without at rows) (without_fine id least most at rows fine)

-- a default of one value
abbrev with_one_default : Text → Text → List Row → List Row
with_one_default at v rows = cond (has_row at rows) rows (with_values at AsWritten DefaultValue (v ∷ []) rows)

default_fine : (id : Text) (least most : ℕ) (at v : Text) → fine_row id least most (row_with at DefaultValue (v ∷ [])) ≡ true → (rows : List Row) → all_fine id least most rows ≡ true
    → all_fine id least most (with_one_default at v rows) ≡ true
default_fine id least most at v new rows fine = go (has_row at rows)
  where
    go : (b : Bool) → all_fine id least most (cond b rows (with_values at AsWritten DefaultValue (v ∷ []) rows)) ≡ true
    go true = fine
    go false = with_values_fine id least most at DefaultValue (v ∷ []) new rows fine

either_way : {A : Type 0} (b : Bool) (x : A) → cond b x x ≡ x
either_way true x = refl
either_way false x = refl

no_default : (id : Text) (least most : ℕ) (at : Text) (rows : List Row) → all_fine id least most rows ≡ true → all_fine id least most (cond (has_row at rows) rows rows) ≡ true
no_default id least most at rows fine = subst (λ rs. all_fine id least most rs ≡ true) (sym (either_way (has_row at rows) rows)) fine

help_keeps : (id : Text) (least most : ℕ) → Keeps id least most (filled help_rule ∷ [])
help_keeps id least most = ((λ again values rows none fine. fine), no_default id least most (codes "help"), tt)

turns_kept : Keeps (codes "K") 0 most_turns within_rules
turns_kept = (
  own_used (codes "K") None (Some 1) 0 [] 0 most_turns true,
  no_default (codes "K") 0 most_turns (codes "K"),
  (
    other_used (codes "K") 0 most_turns (codes "nodes") (Some (codes "nodes")) None 1 (codes "1000000" ∷ []) 0 most_nodes false refl,
    default_fine (codes "K") 0 most_turns (codes "nodes") (codes "1000000") refl,
    help_keeps (codes "K") 0 most_turns,
  ),
)

nodes_kept : Keeps (codes "nodes") 0 most_nodes within_rules
nodes_kept = (
  other_used (codes "nodes") 0 most_nodes (codes "K") None (Some 1) 0 [] 0 most_turns true refl,
  no_default (codes "nodes") 0 most_nodes (codes "K"),
  (
    own_used (codes "nodes") (Some (codes "nodes")) None 1 (codes "1000000" ∷ []) 0 most_nodes false,
    default_fine (codes "nodes") 0 most_nodes (codes "nodes") (codes "1000000") refl,
    help_keeps (codes "nodes") 0 most_nodes,
  ),
)

steps_kept : Keeps (codes "steps") 1 most_steps solve_rules
steps_kept = (
  own_used (codes "steps") (Some (codes "steps")) None 1 (codes "1000000" ∷ []) 1 most_steps false,
  default_fine (codes "steps") 1 most_steps (codes "steps") (codes "1000000") refl,
  (
    other_used (codes "steps") 1 most_steps (codes "table") (Some (codes "table")) None 1 (codes "100000" ∷ []) 1 most_entries false refl,
    default_fine (codes "steps") 1 most_steps (codes "table") (codes "100000") refl,
    (
      flag_used (codes "proof") (codes "steps") 1 most_steps refl,
      default_fine (codes "steps") 1 most_steps (codes "proof") (codes "false") refl,
      (
        flag_used (codes "lift") (codes "steps") 1 most_steps refl,
        default_fine (codes "steps") 1 most_steps (codes "lift") (codes "false") refl,
        help_keeps (codes "steps") 1 most_steps,
      ),
    ),
  ),
)

table_kept : Keeps (codes "table") 1 most_entries solve_rules
table_kept = (
  other_used (codes "table") 1 most_entries (codes "steps") (Some (codes "steps")) None 1 (codes "1000000" ∷ []) 1 most_steps false refl,
  default_fine (codes "table") 1 most_entries (codes "steps") (codes "1000000") refl,
  (
    own_used (codes "table") (Some (codes "table")) None 1 (codes "100000" ∷ []) 1 most_entries false,
    default_fine (codes "table") 1 most_entries (codes "table") (codes "100000") refl,
    (
      flag_used (codes "proof") (codes "table") 1 most_entries refl,
      default_fine (codes "table") 1 most_entries (codes "proof") (codes "false") refl,
      (
        flag_used (codes "lift") (codes "table") 1 most_entries refl,
        default_fine (codes "table") 1 most_entries (codes "lift") (codes "false") refl,
        help_keeps (codes "table") 1 most_entries,
      ),
    ),
  ),
)

-- what all arguments keep is kept by each, and by the defaults in turn
use_kept : (id : Text) (least most : ℕ) (rules : List Rule) → Keeps id least most rules → (a : Rule) → Member a rules → UseKeeps id least most a
use_kept id least most [] kept a m = absurd m
use_kept id least most (r ∷ rs) kept a (inl e) = subst (UseKeeps id least most) (sym e) kept.0
use_kept id least most (r ∷ rs) kept a (inr m) = use_kept id least most rs kept.2 a m

defaults_kept : (id : Text) (least most : ℕ) (rules : List Rule) → Keeps id least most rules → (rows : List Row) → all_fine id least most rows ≡ true
    → all_fine id least most (fold with_default rows rules) ≡ true
defaults_kept id least most [] kept rows fine = fine
defaults_kept id least most (r ∷ rs) kept rows fine = defaults_kept id least most rs kept.2 (with_default rows r) (kept.1 rows fine)

-- an argument that has a row keeps it, and a default makes one
put_keeps : (id at : Text) (how : Reading) (s : ValueSource) (values : List Text) (rows : List Row) → has_row id rows ≡ true → has_row id (with_values at how s values rows) ≡ true
put_keeps id at how s values [] there = absurd (cc)
put_keeps id at how s values (r ∷ rs) there = go (bytes_eq r.id at) (or_cases (bytes_eq r.id id) (has_row id rs) there) (put_keeps id at how s values rs)
  where
    go : (b : Bool) → (bytes_eq r.id id ≡ true) ⊎ (has_row id rs ≡ true) → (has_row id rs ≡ true → has_row id (with_values at how s values rs) ≡ true)
        → has_row id (cond b (more_values s values r ++ rs) (r ∷ with_values at how s values rs)) ≡ true
    go true h later = there
    go false (inl h) later = or_left (bytes_eq r.id id) _ h
    go false (inr h) later = or_right (bytes_eq r.id id) _ (later h)

default_keeps : (id : Text) (a : Rule) (rows : List Row) → has_row id rows ≡ true → has_row id (with_default rows a) ≡ true
default_keeps id a rows there = go (has_row a.id rows) a.defaults
  where
    go : (b : Bool) (values : List Text) → has_row id (cond b rows (default_rows a.id (reading_by a) values rows)) ≡ true
    go true values = there
    go false [] = there
    go false (v ∷ vs) = put_keeps id a.id (reading_by a) DefaultValue (v ∷ vs) rows there

defaults_keep : (id : Text) (rules : List Rule) (rows : List Row) → has_row id rows ≡ true → has_row id (fold with_default rows rules) ≡ true
defaults_keep id [] rows there = there
defaults_keep id (a ∷ rest) rows there = defaults_keep id rest (with_default rows a) (default_keeps id a rows there)

put_there : (id : Text) (how : Reading) (s : ValueSource) (values : List Text) → bytes_eq id id ≡ true → (rows : List Row) → has_row id (with_values id how s values rows) ≡ true
put_there id how s values same [] = or_left (bytes_eq id id) _ same
put_there id how s values same (r ∷ rs) = pick (bytes_eq r.id id) refl (put_there id how s values same rs)
  where
    pick : (b : Bool) → bytes_eq r.id id ≡ b → has_row id (with_values id how s values rs) ≡ true → has_row id (cond b (more_values s values r ++ rs) (r ∷ with_values id how s values rs)) ≡ true
    pick true e later = or_left (bytes_eq r.id id) _ e
    pick false e later = or_right (bytes_eq r.id id) _ later

default_there : (id v : Text) → bytes_eq id id ≡ true → (rows : List Row) → has_row id (with_one_default id v rows) ≡ true
default_there id v same rows = go (has_row id rows) refl
  where
    go : (b : Bool) → has_row id rows ≡ b → has_row id (cond b rows (with_values id AsWritten DefaultValue (v ∷ []) rows)) ≡ true
    go true e = e
    go false e = put_there id AsWritten DefaultValue (v ∷ []) same rows

nodes_there : (rows : List Row) → has_row (codes "nodes") (fold with_default rows within_rules) ≡ true
nodes_there rows =
    defaults_keep (codes "nodes") (filled help_rule ∷ []) (with_default (with_default rows turns_built) nodes_built) (default_there (codes "nodes") (codes "1000000") refl (with_default rows turns_built))

steps_there : (rows : List Row) → has_row (codes "steps") (fold with_default rows solve_rules) ≡ true
steps_there rows =
    defaults_keep (codes "steps") (table_built ∷ filled proof_rule ∷ filled lift_rule ∷ filled help_rule ∷ []) (with_default rows steps_built) (default_there (codes "steps") (codes "1000000") refl rows)

table_there : (rows : List Row) → has_row (codes "table") (fold with_default rows solve_rules) ≡ true
table_there rows =
    defaults_keep (codes "table") (filled proof_rule ∷ filled lift_rule ∷ filled help_rule ∷ []) (with_default (with_default rows steps_built) table_built)
    (default_there (codes "table") (codes "100000") refl (with_default rows steps_built))

-- a row that is there is read
row_read : (id : Text) (least most : ℕ) (rows : List Row) → all_fine id least most rows ≡ true → has_row id rows ≡ true → is_some (number_of id least most rows) ≡ true
row_read id least most [] fine there = absurd (cc)
row_read id least most (r ∷ rs) fine there =
    go (bytes_eq r.id id) (and_left (fine_row id least most r) (all_fine id least most rs) fine) there (row_read id least most rs (and_right (fine_row id least most r) (all_fine id least most rs) fine))
  where
    go : (b : Bool) → (not b || is_some (option_and_then (number_in least most) (row_text r))) ≡ true → (b || has_row id rs) ≡ true → (has_row id rs ≡ true → is_some (number_of id least most rs) ≡ true)
        → is_some (option_and_then (number_in least most) (option_and_then row_text (cond b (Some r) (find (λ q. bytes_eq q.id id) rs)))) ≡ true
    go true f g later = f
    go false f g later = later g

given_there : (id : Text) (rows : List Row) → is_given id rows ≡ true → has_row id rows ≡ true
given_there id [] h = absurd (cc)
given_there id (r ∷ rs) h = go (bytes_eq r.id id) (given_there id rs) h
  where
    go : (b : Bool) → (is_given id rs ≡ true → has_row id rs ≡ true) → option_map_or (λ q. explicit_source q.source) (cond b (Some r) (find (λ q. bytes_eq q.id id) rs)) false ≡ true → (b || has_row id rs) ≡ true
    go true later g = refl
    go false later g = later g

pub check_none : (a b c : Bool) → check_kinds a b c ≡ [] → (b ≡ false) × (c ≡ false)
check_none true b c h = absurd (cc)
check_none false true c h = absurd (cc)
check_none false false true h = absurd (cc)
check_none false false false h = (refl, refl)

turns_given : (n g : Bool) (rest : Bool) → (not (n && false) && ((true && not g) || rest)) ≡ false → g ≡ true
turns_given true true rest h = refl
turns_given false true rest h = refl
turns_given true false rest h = absurd (cc)
turns_given false false rest h = absurd (cc)

module _ (s : Shape) (words : List Text) (none : level_fault s [] nothing_held words false [] ≡ []) where
  end : Held
  end = (walk s.rules [] nothing_held words).held

  rows : List Row
  rows = (settled s.rules end).rows

  check : Kinds
  check = check_fault s (finished s.rules end) false

  behind : Kinds
  behind = or_else (settle_fault s.rules s.args_override_self end) (or_else (defaults_fault rows s.rules) check)

  behind_none : behind ≡ []
  unfolding behind check rows end
  behind_none = then_none (walk_fault s [] (walk_from nothing_held) words) behind none

  check_passed : check ≡ []
  unfolding behind check rows end
  check_passed = then_none (defaults_fault rows s.rules) check (then_none (settle_fault s.rules s.args_override_self end) (or_else (defaults_fault rows s.rules) check) behind_none)

  -- a parse that has no fault finds the number of an argument that has a row at its end
  number_found : (id : Text) (least most : ℕ) → Keeps id least most s.rules → has_row id (rows_after s.rules [] words) ≡ true → is_some (number_of id least most (rows_after s.rules [] words)) ≡ true
  unfolding behind check rows end
  number_found id least most kept there =
      let Fine = λ (rs : List Row). all_fine id least most rs ≡ true in
      let each = λ (a : Rule) (m : Member a s.rules). use_kept id least most s.rules kept a m s.args_override_self in
      let walked_none : walk_fault s [] (walk_from nothing_held) words ≡ [] = first_none (walk_fault s [] (walk_from nothing_held) words) behind none in
      let settle_none = first_none (settle_fault s.rules s.args_override_self end) (or_else (defaults_fault rows s.rules) check) behind_none in
      let fine : all_fine id least most rows ≡ true = end_fine s Fine each end (walk_fine s Fine each words (walk_from nothing_held) refl walked_none) settle_none in
      row_read id least most (rows_after s.rules [] words) (defaults_kept id least most s.rules kept rows fine) there

-- a parse of the words of `within` that has no fault finds both numbers
pub within_found : (s : Shape) → s.rules ≡ within_rules → (words : List Text) → level_fault s [] nothing_held words false [] ≡ []
    → (is_some (number_of (codes "K") 0 most_turns (rows_after s.rules [] words)) ≡ true) × (is_some (number_of (codes "nodes") 0 most_nodes (rows_after s.rules [] words)) ≡ true)
unfolding check rows end
within_found s are words none =
    let last : List Row = rows_after s.rules [] words in
    let given : is_given (codes "K") last ≡ true =
    turns_given s.subcommand_negates_reqs (is_given (codes "K") last) (list_any (λ a. a.required && not (is_given a.id last)) (nodes_built ∷ filled help_rule ∷ []))
    (subst (λ rules. (not (s.subcommand_negates_reqs && false) && list_any (λ a. a.required && not (is_given a.id last)) rules) ≡ false) are (check_none _ _ _ (check_passed s words none)).1) in (
      number_found s words none (codes "K") 0 most_turns (subst (Keeps (codes "K") 0 most_turns) (sym are) turns_kept) (given_there (codes "K") last given),
      number_found s words none (codes "nodes") 0 most_nodes (subst (Keeps (codes "nodes") 0 most_nodes) (sym are) nodes_kept)
          (subst (λ rules. has_row (codes "nodes") (fold with_default (rows s words none) rules) ≡ true) (sym are) (nodes_there (rows s words none))),
    )

-- and so does one of the words of `solve`
pub solve_found : (s : Shape) → s.rules ≡ solve_rules → (words : List Text) → level_fault s [] nothing_held words false [] ≡ []
    → (is_some (number_of (codes "steps") 1 most_steps (rows_after s.rules [] words)) ≡ true) × (is_some (number_of (codes "table") 1 most_entries (rows_after s.rules [] words)) ≡ true)
unfolding rows end
solve_found s are words none = (
  number_found s words none (codes "steps") 1 most_steps (subst (Keeps (codes "steps") 1 most_steps) (sym are) steps_kept)
      (subst (λ rules. has_row (codes "steps") (fold with_default (rows s words none) rules) ≡ true) (sym are) (steps_there (rows s words none))),
  number_found s words none (codes "table") 1 most_entries (subst (Keeps (codes "table") 1 most_entries) (sym are) table_kept)
      (subst (λ rules. has_row (codes "table") (fold with_default (rows s words none) rules) ≡ true) (sym are) (table_there (rows s words none))),
)
