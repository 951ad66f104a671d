-- The walk over the words of a subcommand, which has none of its own: what each use of an argument keeps, the walk keeps.
use Rattle.tsumego_words.proofs.Common.{◌≡◌, ℕ, Bool, true, false, cond, ◌&&◌, List, [], ◌∷◌, length, find, slice_get, Option, Some, None, is_some, inl, inr, if◌then◌else◌, refl, sym, subst, fold, option_map_or, bytes_eq, long_of, short_of, Kinds, Row, Rule, Shape, Text, or_else, Held, Outcome, done, waits, plain, refused, Waiting, idle, option, positional, Step, next, trailing, subcommand, value, Walk, arg_by_index, arg_by_long, after_flag, after_step, bundle, long_met, long_or_other, plain_word, settled, short_or_plain, subcommand_met, subcommand_or_other, to_positional, used, walked_from, word_met, other_fault, settle_fault, step_fault, turn_fault, use_fault, word_fault, Member}
use Rattle.std.proofs.Common.{zero, suc, drop, encode_utf8}
use Rattle.std.specs.Str.{chars}
use Rattle.clap.specs.Walk.{arg_by_id, arg_by_short, attached_value, bundle_met, bundle_step, flag_met, is_pending, option_met, option_word, reacted, settled_rows, short_met, takes_several, takes_values, used_by_id, walked}
use Rattle.clap.specs.Faults.{bundle_fault, bundle_step_fault, flag_word_fault, flags_fault, long_fault, option_fault, positional_fault, react_fault, short_fault, stray_fault, walk_fault}
use Rattle.clap.specs.declared.error.kind.ErrorKind.TheVariants.{TooManyValues}

-- of two lists of faults, one after the other, neither has any
pub first_none : (a b : Kinds) → or_else a b ≡ [] → a ≡ []
first_none [] b h = refl
first_none (x ∷ xs) b h = absurd (cc)

pub then_none : (a b : Kinds) → or_else a b ≡ [] → b ≡ []
then_none [] b h = h
then_none (x ∷ xs) b h = absurd (cc)

found_member : {A : Type 0} (p : A → Bool) (xs : List A) (a : A) → find p xs ≡ Some a → Member a xs
found_member p [] a e = absurd (cc)
found_member {A} p (x ∷ xs) a e = go (p x) (found_member p xs a) e
  where
    go : (b : Bool) → (find p xs ≡ Some a → Member a xs) → cond b (Some x) (find p xs) ≡ Some a → Member a (x ∷ xs)
    go true later f = inl (cc f)
    go false later f = inr (later f)

no_subcommand : (waiting : Waiting) (word : Text) → subcommand_met [] waiting word ≡ None
no_subcommand idle word = refl
no_subcommand (option id) word = refl
no_subcommand positional word = refl

plain_rows : (c : List Rule) (waiting : Waiting) (word : Text) (h : Held) → (plain_word c waiting word h).0.rows ≡ h.rows
plain_rows c idle word h = refl
plain_rows c positional word h = refl
plain_rows c (option id) word h = go (arg_by_id c id)
  where
    go : (o : Option Rule) → (option_word o id word h).0.rows ≡ h.rows
    go None = refl
    go (Some a) = refl

flag_rows : (c : List Rule) (waiting : Waiting) (word : Text) (h : Held) (o : Outcome) → (after_flag c waiting word h o).0.rows ≡ h.rows
flag_rows c waiting word h done = refl
flag_rows c waiting word h (waits id) = refl
flag_rows c waiting word h plain = plain_rows c waiting word h
flag_rows c waiting word h refused = plain_rows c waiting word h

module _ (s : Shape) (Fine : List Row → Type 0)
    (kept : (a : Rule) → Member a s.rules → (values : List Text) (rows : List Row) → use_fault s.args_override_self a values rows ≡ [] → Fine rows → Fine (used a values rows)) where
  settled_fine : (p : Option (Text × List Text)) (rows : List Row) → Fine rows
      → option_map_or (λ q. option_map_or (λ a. use_fault s.args_override_self a q.1 rows) (arg_by_id s.rules q.0) []) p [] ≡ []
      → Fine (settled_rows s.rules p rows)
  settled_fine None rows fine none = fine
  settled_fine (Some q) rows fine none = go (arg_by_id s.rules q.0) refl none
    where
      go : (o : Option Rule) → arg_by_id s.rules q.0 ≡ o → option_map_or (λ a. use_fault s.args_override_self a q.1 rows) o [] ≡ [] → Fine (used_by_id o q.1 rows)
      go None e f = fine
      go (Some a) e f = kept a (found_member _ s.rules a e) q.1 rows f fine

  held_fine : (h : Held) → Fine h.rows → settle_fault s.rules s.args_override_self h ≡ [] → Fine (settled s.rules h).rows
  held_fine h fine none = settled_fine h.pending h.rows fine none

  reacted_fine : (a : Rule) → Member a s.rules → (values : List Text) (h : Held) → Fine h.rows → react_fault s.rules s.args_override_self a values h ≡ [] → Fine (reacted s.rules a values h).rows
  reacted_fine a m values h fine none =
      kept a m values (settled s.rules h).rows
      (then_none (settle_fault s.rules s.args_override_self h) (use_fault s.args_override_self a values (settled s.rules h).rows) none)
      (held_fine h fine (first_none (settle_fault s.rules s.args_override_self h) (use_fault s.args_override_self a values (settled s.rules h).rows) none))

  option_fine : (a : Rule) → Member a s.rules → (v : Option Text) (h : Held) → Fine h.rows → option_fault s.rules s.args_override_self a v h ≡ [] → Fine (option_met s.rules a v h).0.rows
  option_fine a m (Some v) h fine none = reacted_fine a m (v ∷ []) h fine none
  option_fine a m None h fine none = held_fine h fine none

  flag_fine : (a : Rule) → Member a s.rules → (v : Option Text) (h : Held) → Fine h.rows → (if is_some v then TooManyValues ∷ [] else react_fault s.rules s.args_override_self a [] h) ≡ [] → Fine (flag_met s.rules a v h).0.rows
  flag_fine a m (Some v) h fine none = fine
  flag_fine a m None h fine none = reacted_fine a m [] h fine none

  long_fine : (o : Option Rule) → ((a : Rule) → o ≡ Some a → Member a s.rules) → (v : Option Text) (h : Held) → Fine h.rows → long_fault s.rules s.args_override_self o v h ≡ [] → Fine (long_met s.rules o v h).0.rows
  long_fine None m v h fine none = fine
  long_fine (Some a) m v h fine none = go (takes_values a) none
    where
      go : (b : Bool) → cond b (option_fault s.rules s.args_override_self a v h) (if is_some v then TooManyValues ∷ [] else react_fault s.rules s.args_override_self a [] h) ≡ []
          → Fine (cond b (option_met s.rules a v h) (flag_met s.rules a v h)).0.rows
      go true f = option_fine a (m a refl) v h fine f
      go false f = flag_fine a (m a refl) v h fine f

  bundle_fine : (k : ℕ) (flags : Text) (skip : ℕ) (so_far : Outcome) (h : Held) → Fine h.rows → flags_fault s.rules s.args_override_self k flags skip h ≡ [] → Fine (bundle_met s.rules k flags skip so_far h).0.rows
  unfolding bundle_met flags_fault
  bundle_fine zero flags skip so_far h fine none = fine
  bundle_fine (suc k) flags skip so_far h fine none = go (slice_get (chars flags) 0) skip none (bundle_fine k)
    where
      Below : Type 0
      Below = (rest : Text) (j : ℕ) (so : Outcome) (g : Held) → Fine g.rows → flags_fault s.rules s.args_override_self k rest j g ≡ [] → Fine (bundle_met s.rules k rest j so g).0.rows

      pick : (a : Rule) → Member a s.rules → (rest : Text) → Below → (b : Bool) → cond b (option_fault s.rules s.args_override_self a (attached_value rest) h)
          (or_else (react_fault s.rules s.args_override_self a [] h) (flags_fault s.rules s.args_override_self k rest 0 (reacted s.rules a [] h))) ≡ []
          → Fine (cond b (option_met s.rules a (attached_value rest) h) (bundle_met s.rules k rest 0 done (reacted s.rules a [] h))).0.rows
      pick a m rest below true g = option_fine a m (attached_value rest) h fine g
      pick a m rest below false g =
          let one = first_none (react_fault s.rules s.args_override_self a [] h) (flags_fault s.rules s.args_override_self k rest 0 (reacted s.rules a [] h)) g in
          let two = then_none (react_fault s.rules s.args_override_self a [] h) (flags_fault s.rules s.args_override_self k rest 0 (reacted s.rules a [] h)) g in
          below rest 0 done (reacted s.rules a [] h) (reacted_fine a m [] h fine one) two

      short : (rest : Text) (o : Option Rule) → ((a : Rule) → o ≡ Some a → Member a s.rules) → Below
          → short_fault s.rules s.args_override_self o rest h (flags_fault s.rules s.args_override_self k rest 0) ≡ []
          → Fine (short_met s.rules o rest h (bundle_met s.rules k rest 0 done)).0.rows
      short rest None m below f = fine
      short rest (Some a) m below f = pick a (m a refl) rest below (takes_values a) f

      go : (o : Option ℕ) (j : ℕ) → bundle_step_fault s.rules s.args_override_self o flags j h (flags_fault s.rules s.args_override_self k) ≡ [] → Below
          → Fine (bundle_step s.rules o flags j so_far h (bundle_met s.rules k)).0.rows
      go None j f below = fine
      go (Some x) zero f below = short (drop (length (encode_utf8 x)) flags) (arg_by_short s.rules x) (λ a e. found_member _ s.rules a e) below f
      go (Some x) (suc j) f below = below (drop (length (encode_utf8 x)) flags) j so_far h fine f

  flag_word_fine : (waiting : Waiting) (word : Text) (p : Option (Text × Option Text)) (h : Held) → Fine h.rows → flag_word_fault s.rules s.args_override_self p word h ≡ [] → Fine (long_or_other s.rules waiting word p h).0.rows
  flag_word_fine waiting word (Some p) h fine none =
      let met = long_met s.rules (arg_by_long s.rules p.0) p.1 h in
      subst Fine (sym (flag_rows s.rules waiting word met.0 met.1)) (long_fine (arg_by_long s.rules p.0) (λ a e. found_member _ s.rules a e) p.1 h fine none)
  flag_word_fine waiting word None h fine none = go (short_of word) none
    where
      go : (o : Option Text) → option_map_or (λ flags. bundle_fault s.rules s.args_override_self flags h) o [] ≡ [] → Fine (short_or_plain s.rules waiting word o h).0.rows
      go None f = subst Fine (sym (plain_rows s.rules waiting word h)) fine
      go (Some flags) f =
          let met = bundle s.rules flags h in
          subst Fine (sym (flag_rows s.rules waiting word met.0 met.1)) (bundle_fine (length flags) flags h.skip plain (record h { skip = 0 }) fine f)

  word_fine : (is_trailing : Bool) (waiting : Waiting) (position : ℕ) (word : Text) (h : Held) → Fine h.rows → word_fault s [] is_trailing waiting word h ≡ [] → Fine (word_met s.rules [] is_trailing waiting position word h).0.rows
  word_fine true waiting position word h fine none = fine
  word_fine false waiting position word h fine none =
      subst (λ o. Fine (subcommand_or_other s.rules o waiting position word h).0.rows) (sym (no_subcommand waiting word))
      (go (bytes_eq word (45 ∷ 45 ∷ [])) (subst (λ o. other_fault s o word h ≡ []) (no_subcommand waiting word) none))
    where
      go : (b : Bool) → cond b [] (flag_word_fault s.rules s.args_override_self (long_of word) word h) ≡ [] → Fine (cond b (h, trailing position) (long_or_other s.rules waiting word (long_of word) h)).0.rows
      go true f = fine
      go false f = flag_word_fine waiting word (long_of word) h fine f

  positional_fine : (o : Option Rule) (word : Text) (w : Walk) (h : Held) → Fine h.rows → option_map_or (λ a. positional_fault s.rules s.args_override_self a h) o (stray_fault s) ≡ [] → Fine (to_positional s.rules o word w h).held.rows
  positional_fine None word w h fine none = fine
  positional_fine (Some a) word w h fine none = go (is_pending a h.pending && takes_several a) none
    where
      go : (b : Bool) → cond b [] (settle_fault s.rules s.args_override_self h) ≡ [] → Fine (cond b h (settled s.rules h)).rows
      go true f = fine
      go false f = held_fine h fine f

  step_fine : (word : Text) (w : Walk) (h : Held) (step : Step) → Fine h.rows → step_fault s w.position h step ≡ [] → Fine (after_step s.rules word w h step).held.rows
  step_fine word w h (next waiting) fine none = fine
  step_fine word w h (trailing position) fine none = fine
  step_fine word w h (subcommand name) fine none = fine
  step_fine word w h value fine none = positional_fine (arg_by_index s.rules w.position) word w h fine none

  turn_fine : (w : Walk) (word : Text) → Fine w.held.rows → turn_fault s [] w word ≡ [] → Fine (walked s.rules [] w word).held.rows
  unfolding walked
  turn_fine w word fine none = go w.stopped none
    where
      met : Held × Step
      met = word_met s.rules [] w.is_trailing w.waiting w.position word w.held

      go : (o : Option (Text × List Text)) → (if is_some o then [] else or_else (word_fault s [] w.is_trailing w.waiting word w.held) (step_fault s w.position met.0 met.1)) ≡ []
          → Fine (walked_from s.rules [] o w word).held.rows
      go (Some p) f = fine
      go None f =
          let one = first_none (word_fault s [] w.is_trailing w.waiting word w.held) (step_fault s w.position met.0 met.1) f in
          let two = then_none (word_fault s [] w.is_trailing w.waiting word w.held) (step_fault s w.position met.0 met.1) f in
          step_fine word w met.0 met.1 (word_fine w.is_trailing w.waiting w.position word w.held fine one) two

  pub walk_fine : (ws : List Text) (w : Walk) → Fine w.held.rows → walk_fault s [] w ws ≡ [] → Fine (fold (walked s.rules []) w ws).held.rows
  unfolding walk_fault
  walk_fine [] w fine none = fine
  walk_fine (word ∷ rest) w fine none =
      let one = first_none (turn_fault s [] w word) (walk_fault s [] (walked s.rules [] w word) rest) none in
      let two = then_none (turn_fault s [] w word) (walk_fault s [] (walked s.rules [] w word) rest) none in
      walk_fine rest (walked s.rules [] w word) (turn_fine w word fine one) two

  pub end_fine : (h : Held) → Fine h.rows → settle_fault s.rules s.args_override_self h ≡ [] → Fine (settled s.rules h).rows
  end_fine = held_fine
