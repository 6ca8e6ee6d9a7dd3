use Rattle.std.proofs.Common.{◌≤◌, length, take, vec_items, arith}
use Rattle.std.proofs.lemmas.List.{length-map, length-take-le}
use Rattle.rows.specs.Views.{row_of}
use Rattle.table.specs.Shown.{rows_in}
use Rattle.table.proofs.Posting.{no_room, room_by}
use Rattle.table.proofs.table.Table.has_room.Goals as goal

pub returns-then-self-ge-MOST_ROWS : goal.returns-then-self-ge-MOST_ROWS
returns-then-self-ge-MOST_ROWS g c =
    let t = c.args.self.now in
    let k : t.posted ≤ length (vec_items t.rows) = omega (arith, t.within, t.spare, t.rows.ok.0) in
    no_room (rows_in t) c.args.bytes
    (omega (arith, c.if-self-ge-MOST_ROWS.true, length-map (take t.posted (vec_items t.rows)) row_of, length-take-le t.posted (vec_items t.rows) k))

pub returns : goal.returns
returns g c =
    let t = c.args.self.now in
    let k : t.posted ≤ length (vec_items t.rows) = omega (arith, t.within, t.spare, t.rows.ok.0) in
    room_by (rows_in t) c.args.bytes t.bytes
    (omega (arith, c.if-self-ge-MOST_ROWS.false, length-map (take t.posted (vec_items t.rows)) row_of, length-take-le t.posted (vec_items t.rows) k))
    t.weighed t.short
