use Rattle.std.proofs.Common.{◌≡◌, ◌≤◌, length, vec_items, sym, ◌∙◌, arith, w16, SFits, to_z, of_z, rules, ltb-false, ltb-true}
use Rattle.std.proofs.lemmas.Int.{to_z-of_z}
use Rattle.rows.specs.declared.member.Member.{Member}
use Rattle.rows.specs.Views.{row_of}
use Rattle.rows.proofs.Readings.{first, row_members_more, row_members_end}
use Rattle.rows.proofs.reading.push_members.Goals as goal

pub loop-left-preserved : goal.loop-left-preserved
loop-left-preserved c =
    let few : length (vec_items c.loop-left.row.members) ≤ 32 = search rules in
    let fits : SFits w16 c.from_le_bytes.result = search rules in
    let x : Member = record { voice = c.from.result; argument = to_z w16 (of_z w16 c.from_le_bytes.result) } in
    let e : x ≡ first c.loop-left.left.now = λ j. record { voice = c.from.ensures j; argument = (to_z-of_z w16 c.from_le_bytes.result fits ∙ c.from_le_bytes.ensures) j } in
    row_members_more (row_of c.loop-left.row) (row_of c.push_member.new.self) c.push_member.result x c.loop-left.left.now few (omega (arith, ltb-true, ltb-false)) e
    c.push_member.ensures.value c.push_member.ensures.after
    ∙ c.loop-left.invariant

pub returns : goal.returns
returns c =
    let few : length (vec_items c.loop-left.row.members) ≤ 32 = search rules in
    sym (row_members_end (row_of c.loop-left.row) c.loop-left.left.now few (omega (arith, ltb-true, ltb-false))) ∙ c.loop-left.invariant
