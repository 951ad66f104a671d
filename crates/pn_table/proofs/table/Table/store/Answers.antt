use Rattle.std.proofs.Common.{rules, ◌≡◌, IsOk, IsSome, subst, sym, refl}
use Rattle.std.specs.Map.{lookup}
use Rattle.lru.specs.LruCache.{put_entries, lru_cache}
use Rattle.pn_table.specs.Table.{TableContent, same_key}
use Rattle.pn_table.proofs.Entries.{E, found_by, put_by}
use Rattle.pn_table.proofs.table.Table.store.Goals as goal

pub returns-clause-stored : goal.returns-clause-stored
returns-clause-stored c = λ done.
    let after : c.put.new.self ≡ lru_cache (put_entries E c.self.inside.entries c.args.key c.args.numbers) c.self.inside.entries.cap = search rules in
    let valid = c.len.ensures.valid in
    let put = put_by c.args.key c.self.inside.entries.entries c.args.numbers c.self.inside.entries.cap valid.0 valid.1 valid.2 in
    rw (← c.self.view_is, after, put) refl

pub returns-clause-present : goal.returns-clause-present
returns-clause-present c = λ there.
    let here = subst (λ (v : TableContent). IsSome (lookup (same_key c.args.key) v.entries)) (sym c.self.view_is) there in
    let stored_it : IsOk c.put.result = c.put.ensures.succeeds (found_by c.args.key c.self.inside.entries.entries here) in
    search rules
