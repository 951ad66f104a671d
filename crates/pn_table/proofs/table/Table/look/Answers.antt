use Rattle.std.proofs.Common.{rules, ◌≡◌, refl}
use Rattle.lru.specs.LruCache.{promoted as entries_promoted, lru_cache}
use Rattle.pn_table.proofs.Entries.{E, promoted_by}
use Rattle.pn_table.proofs.table.Table.look.Goals as goal

pub returns-clause-content : goal.returns-clause-content
returns-clause-content c =
    let after : c.get-2.follows.lender-at-none ≡ lru_cache (entries_promoted (E c.args.key) c.self.inside.entries.entries) c.self.inside.entries.cap = search rules in
    let moved = promoted_by c.args.key c.self.inside.entries.entries c.len.ensures.valid.0 in
    rw (← c.self.view_is, after, moved) refl
