-- The four branches are the four steps of `neighbours_made`.
use Rattle.std.proofs.Common.{rules, ◌+◌, ◌-◌, ◌<◌, []}
use Rattle.go_points.proofs.Adjacency.{Added, added, kept, neighbours_made}
use Rattle.go_points.proofs.point.Point.neighbours.Goals as goal
use Rattle.go_points.proofs.point.Point.neighbours.Goals.{then-self-gt0, else-self-gt0, then-self-gt0-2, else-self-gt0-2, then-self-rows, else-self-rows}

pub returns-then-self-rows-2-clause-exact : goal.returns-then-self-rows-2-clause-exact
returns-then-self-rows-2-clause-exact c =
    let p = c.args.self in
    let up : Added (0 < p.row) [] (record { row = p.row - 1; column = p.column }) c.if-self-gt0.found.items =
    elim c.if-self-gt0.branch [ then-self-gt0 w ↦ added (search rules) (search rules) | else-self-gt0 w ↦ kept (search rules) (search rules) ] in
    let left : Added (0 < p.column) c.if-self-gt0.found.items (record { row = p.row; column = p.column - 1 }) c.if-self-gt0-2.found.items =
    elim c.if-self-gt0-2.branch [ then-self-gt0-2 w ↦ added (search rules) (search rules) | else-self-gt0-2 w ↦ kept (search rules) (search rules) ] in
    let right : Added (p.column + 1 < c.args.size) c.if-self-gt0-2.found.items (record { row = p.row; column = p.column + 1 }) c.if-self-rows.found.items =
    elim c.if-self-rows.branch [ then-self-rows w ↦ added (search rules) (search rules) | else-self-rows w ↦ kept (search rules) (search rules) ] in
    let down : Added (p.row + 1 < c.args.size) c.if-self-rows.found.items (record { row = p.row + 1; column = p.column }) c.push-then-self-rows-2.new.self.items =
    added (search rules) (search rules) in
    neighbours_made c.args.size p c.requires _ _ _ _ up left right down

pub returns-else-self-rows-2-clause-exact : goal.returns-else-self-rows-2-clause-exact
returns-else-self-rows-2-clause-exact c =
    let p = c.args.self in
    let up : Added (0 < p.row) [] (record { row = p.row - 1; column = p.column }) c.if-self-gt0.found.items =
    elim c.if-self-gt0.branch [ then-self-gt0 w ↦ added (search rules) (search rules) | else-self-gt0 w ↦ kept (search rules) (search rules) ] in
    let left : Added (0 < p.column) c.if-self-gt0.found.items (record { row = p.row; column = p.column - 1 }) c.if-self-gt0-2.found.items =
    elim c.if-self-gt0-2.branch [ then-self-gt0-2 w ↦ added (search rules) (search rules) | else-self-gt0-2 w ↦ kept (search rules) (search rules) ] in
    let right : Added (p.column + 1 < c.args.size) c.if-self-gt0-2.found.items (record { row = p.row; column = p.column + 1 }) c.if-self-rows.found.items =
    elim c.if-self-rows.branch [ then-self-rows w ↦ added (search rules) (search rules) | else-self-rows w ↦ kept (search rules) (search rules) ] in
    let down : Added (p.row + 1 < c.args.size) c.if-self-rows.found.items (record { row = p.row + 1; column = p.column }) c.if-self-rows.found.items =
    kept (search rules) (search rules) in
    neighbours_made c.args.size p c.requires _ _ _ _ up left right down
