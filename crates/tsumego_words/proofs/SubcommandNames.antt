-- Words in which a parse finds no fault name a subcommand, and give its command.
use Rattle.tsumego_words.proofs.Common.{◌≡◌, ℕ, Bool, true, false, cond, not, ◌&&◌, ◌⊎◌, inl, inr, List, [], ◌∷◌, codes, Option, Some, None, is_some, option_map, option_and_then, refl, sym, ◌∙◌, ap, subst, fold, if◌then◌else◌, list_any, bytes_eq, long_of, short_of, Kinds, Row, Rule, Shape, Text, fault_of, subcommand_of, or_else, Held, Outcome, done, waits, plain, refused, Waiting, idle, option, positional, Step, next, trailing, subcommand, value, Walk, after_flag, after_step, arg_by_index, arg_by_long, bundle, finished, long_met, long_or_other, nothing_held, plain_word, settled, short_or_plain, subcommand_met, subcommand_or_other, to_positional, walk, walk_from, walked_from, word_met, check_fault, defaults_fault, other_fault, settle_fault, step_fault, turn_fault, word_fault, is_given, explicit_source, command_named, command_of, grammar, unless_faulty}
use Rattle.clap.specs.Words.{built}
use Rattle.clap.specs.Walk.{Names, answers_to, walked}
use Rattle.clap.specs.Faults.{entered_fault, walk_fault}
use Rattle.clap.specs.Simple.{argument_words, entered}
use Rattle.clap.specs.declared.error.kind.ErrorKind.TheVariants.{DisplayHelp, InvalidSubcommand}
use Rattle.tsumego_words.specs.CommandLine.{solve_of, within_of}
use Rattle.tsumego_words.proofs.SubcommandWalks.{first_none, then_none}
use Rattle.tsumego_words.proofs.SubcommandRows.{check_none, solve_found, within_found}

-- the names of the subcommands, `help` among them
abbrev names : Names
names = (codes "check", []) ∷ (codes "within", []) ∷ (codes "audit", []) ∷ (codes "solve", []) ∷ (codes "gtp", []) ∷ (codes "help", []) ∷ []

-- a subcommand that is no call for help
abbrev IsAskedName : Text → Type 0
IsAskedName name = (name ≡ codes "check") ⊎ ((name ≡ codes "within") ⊎ ((name ≡ codes "audit") ⊎ ((name ≡ codes "solve") ⊎ (name ≡ codes "gtp"))))

abbrev IsAsked : Option (Text × List Text) → Type 0
IsAsked None = Unit {0}
IsAsked (Some p) = IsAskedName p.0

abbrev IsAskedStep : Step → Type 0
IsAskedStep (subcommand name) = IsAskedName name
IsAskedStep _ = Unit {0}

known : (waiting : Waiting) (word name : Text) → subcommand_met names waiting word ≡ Some name → IsAskedName name ⊎ (name ≡ codes "help")
known idle word name h = go (answers_to word (codes "check", [])) (answers_to word (codes "within", [])) (answers_to word (codes "audit", [])) (answers_to word (codes "solve", [])) (answers_to word (codes "gtp", [])) (answers_to word (codes "help", [])) h
  where
    go : (a b c d e f : Bool) → option_map (λ (s : Text × List Text). s.0) (cond a (Some (codes "check", [])) (cond b (Some (codes "within", [])) (cond c (Some (codes "audit", [])) (cond d (Some (codes "solve", [])) (cond e (Some (codes "gtp", [])) (cond f (Some (codes "help", [])) None)))))) ≡ Some name
        → IsAskedName name ⊎ (name ≡ codes "help")
    go true b c d e f g = inl (inl (cc g))
    go false true c d e f g = inl (inr (inl (cc g)))
    go false false true d e f g = inl (inr (inr (inl (cc g))))
    go false false false true e f g = inl (inr (inr (inr (inl (cc g)))))
    go false false false false true f g = inl (inr (inr (inr (inr (cc g)))))
    go false false false false false true g = inr (cc g)
    go false false false false false false g = absurd (cc)
known (option id) word name h = absurd (cc)
known positional word name h = absurd (cc)

plain_asked : (c : List Rule) (waiting : Waiting) (word : Text) (h : Held) → IsAskedStep (plain_word c waiting word h).1
plain_asked c idle word h = tt
plain_asked c positional word h = tt
plain_asked c (option id) word h = tt

flag_asked : (c : List Rule) (waiting : Waiting) (word : Text) (h : Held) (o : Outcome) → IsAskedStep (after_flag c waiting word h o).1
flag_asked c waiting word h done = tt
flag_asked c waiting word h (waits id) = tt
flag_asked c waiting word h plain = plain_asked c waiting word h
flag_asked c waiting word h refused = plain_asked c waiting word h

long_asked : (c : List Rule) (waiting : Waiting) (word : Text) (p : Option (Text × Option Text)) (h : Held) → IsAskedStep (long_or_other c waiting word p h).1
long_asked c waiting word (Some p) h = flag_asked c waiting word (long_met c (arg_by_long c p.0) p.1 h).0 (long_met c (arg_by_long c p.0) p.1 h).1
long_asked c waiting word None h = go (short_of word)
  where
    go : (o : Option Text) → IsAskedStep (short_or_plain c waiting word o h).1
    go None = plain_asked c waiting word h
    go (Some flags) = flag_asked c waiting word (bundle c flags h).0 (bundle c flags h).1

module _ (s : Shape) (helps : s.disable_help_subcommand ≡ false) where
  word_asked : (is_trailing : Bool) (waiting : Waiting) (position : ℕ) (word : Text) (h : Held) → word_fault s names is_trailing waiting word h ≡ [] → IsAskedStep (word_met s.rules names is_trailing waiting position word h).1
  word_asked true waiting position word h none = tt
  word_asked false waiting position word h none = go (subcommand_met names waiting word) refl none
    where
      plain_word_asked : (b : Bool) → IsAskedStep (cond b (h, trailing position) (long_or_other s.rules waiting word (long_of word) h)).1
      plain_word_asked true = tt
      plain_word_asked false = long_asked s.rules waiting word (long_of word) h

      no_help : (name : Text) → name ≡ codes "help" → (if bytes_eq name (codes "help") && not s.disable_help_subcommand then DisplayHelp ∷ InvalidSubcommand ∷ [] else []) ≡ [] → ⊥
      no_help name e f =
          let shown : DisplayHelp ∷ InvalidSubcommand ∷ [] ≡ [] = sym (ap (λ n. if bytes_eq n (codes "help") && not s.disable_help_subcommand then DisplayHelp ∷ InvalidSubcommand ∷ [] else []) e ∙ ap (λ b. if not b then DisplayHelp ∷ InvalidSubcommand ∷ [] else []) helps) ∙ f in
          absurd (cc shown)

      go : (o : Option Text) → subcommand_met names waiting word ≡ o → other_fault s o word h ≡ [] → IsAskedStep (subcommand_or_other s.rules o waiting position word h).1
      go None e f = plain_word_asked (bytes_eq word (45 ∷ 45 ∷ []))
      go (Some name) e f = elim (known waiting word name e) [ inl asked ↦ asked | inr help ↦ absurd (no_help name help f) ]

  step_asked : (word : Text) (w : Walk) (h : Held) (step : Step) → IsAsked w.stopped → IsAskedStep step → IsAsked (after_step s.rules word w h step).stopped
  step_asked word w h (next waiting) asked a = asked
  step_asked word w h (trailing position) asked a = asked
  step_asked word w h (subcommand name) asked a = a
  step_asked word w h value asked a = go (arg_by_index s.rules w.position)
    where
      go : (o : Option Rule) → IsAsked (to_positional s.rules o word w h).stopped
      go None = asked
      go (Some r) = tt

  turn_asked : (w : Walk) (word : Text) → IsAsked w.stopped → turn_fault s names w word ≡ [] → IsAsked (walked s.rules names w word).stopped
  unfolding walked
  turn_asked w word asked none = go w.stopped asked none
    where
      met : Held × Step
      met = word_met s.rules names w.is_trailing w.waiting w.position word w.held

      go : (o : Option (Text × List Text)) → IsAsked o → (if is_some o then [] else or_else (word_fault s names w.is_trailing w.waiting word w.held) (step_fault s w.position met.0 met.1)) ≡ []
          → IsAsked (walked_from s.rules names o w word).stopped
      go (Some p) a f = a
      go None a f = step_asked word w met.0 met.1 asked (word_asked w.is_trailing w.waiting w.position word w.held (first_none (word_fault s names w.is_trailing w.waiting word w.held) (step_fault s w.position met.0 met.1) f))

  walk_asked : (ws : List Text) (w : Walk) → IsAsked w.stopped → walk_fault s names w ws ≡ [] → IsAsked (fold (walked s.rules names) w ws).stopped
  unfolding walk_fault
  walk_asked [] w asked none = asked
  walk_asked (word ∷ rest) w asked none =
      let one = first_none (turn_fault s names w word) (walk_fault s names (walked s.rules names w word) rest) none in
      let two = then_none (turn_fault s names w word) (walk_fault s names (walked s.rules names w word) rest) none in
      walk_asked rest (walked s.rules names w word) (turn_asked w word asked one) two

within_some : (t n : Option ℕ) → is_some t ≡ true → is_some n ≡ true → is_some (within_of t n) ≡ true
within_some (Some t) (Some n) h k = refl
within_some (Some t) None h k = absurd (cc)
within_some None n h k = absurd (cc)

solve_some : (s t : Option ℕ) (proof lift : Bool) → is_some s ≡ true → is_some t ≡ true → is_some (solve_of s t proof lift) ≡ true
solve_some (Some s) (Some t) proof lift h k = refl
solve_some (Some s) None proof lift h k = absurd (cc)
solve_some None t proof lift h k = absurd (cc)

-- a subcommand that is required was named
named : (s : Shape) (rows : List Row) (has : Bool) → s.subcommand_required ≡ true → check_fault s rows has ≡ [] → has ≡ true
named s rows true required none = refl
named s rows false required none =
    let wants : (not false && s.subcommand_required) ≡ false = (check_none (not false && (s.arg_required_else_help && not (list_any (λ r. explicit_source r.source) rows))) (not false && s.subcommand_required)
    (not (s.subcommand_negates_reqs && false) && list_any (λ a. a.required && not (is_given a.id rows)) s.rules) none).0 in
    absurd (cc (wants, required))

-- the command of the subcommand at which the words stop
stop_gives : (stop : Option (Text × List Text)) → IsAsked stop → is_some (entered (built grammar) stop) ≡ true → entered_fault (built grammar) stop ≡ []
    → is_some (option_and_then (λ p. command_named p.0 p.1) (entered (built grammar) stop)) ≡ true
stop_gives None asked some none = absurd (cc)
stop_gives (Some (name, rest)) asked some none = go asked
  where
    Gives : Text → Type 0
    Gives n = is_some (option_and_then (λ p. command_named p.0 p.1) (entered (built grammar) (Some (n, rest)))) ≡ true

    fault : (n : Text) → name ≡ n → entered_fault (built grammar) (Some (n, rest)) ≡ []
    fault n e = subst (λ m. entered_fault (built grammar) (Some (m, rest)) ≡ []) e none

    go : IsAskedName name → Gives name
    go (inl e) = subst Gives (sym e) refl
    go (inr (inl e)) =
        let found = within_found _ refl rest (fault (codes "within") e) in
        subst Gives (sym e) (within_some _ _ found.0 found.1)
    go (inr (inr (inl e))) = subst Gives (sym e) refl
    go (inr (inr (inr (inr e)))) = subst Gives (sym e) refl
    go (inr (inr (inr (inl e)))) =
        let found = solve_found _ refl rest (fault (codes "solve") e) in
        subst Gives (sym e) (solve_some _ _ _ _ found.0 found.1)

pub parse_gives : (ws : List Text) → fault_of grammar ws ≡ [] → is_some (command_of ws) ≡ true
unfolding command_of
parse_gives ws none =
    let t : Shape = (built grammar).top in
    let args : List Text = argument_words grammar ws in
    let end : Held = (walk t.rules names nothing_held args).held in
    let stop : Option (Text × List Text) = (walk t.rules names nothing_held args).stopped in
    let below : Kinds = entered_fault (built grammar) stop in
    let check : Kinds = check_fault t (finished t.rules end) (is_some (entered (built grammar) stop)) in
    let last : Kinds = or_else (settle_fault t.rules t.args_override_self end) (or_else (defaults_fault (settled t.rules end).rows t.rules) check) in
    let walked_none : walk_fault t names (walk_from nothing_held) args ≡ [] = first_none (walk_fault t names (walk_from nothing_held) args) (or_else below last) none in
    let behind = then_none (walk_fault t names (walk_from nothing_held) args) (or_else below last) none in
    let below_none : below ≡ [] = first_none below last behind in
    let check_is = then_none (defaults_fault (settled t.rules end).rows t.rules) check (then_none (settle_fault t.rules t.args_override_self end) (or_else (defaults_fault (settled t.rules end).rows t.rules) check) (then_none below last behind)) in
    let some : is_some (entered (built grammar) stop) ≡ true = named t (finished t.rules end) (is_some (entered (built grammar) stop)) refl check_is in
    ap (λ (k : Kinds). is_some (unless_faulty k (option_and_then (λ p. command_named p.0 p.1) (subcommand_of grammar ws)))) none
    ∙ stop_gives stop (walk_asked t refl args (walk_from nothing_held) tt walked_none) some below_none
