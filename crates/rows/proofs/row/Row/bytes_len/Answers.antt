use Rattle.std.proofs.Common.{◌≡◌, length, vec_items, arith, rules}
use Rattle.std.proofs.lemmas.List.{length-append}
use Rattle.rows.specs.Bytes.{member_bytes}
use Rattle.rows.proofs.Readings.{members_long}
use Rattle.rows.proofs.row.Row.bytes_len.Goals as goal

pub returns : goal.returns
returns c =
    let body = vec_items c.args.self.now.body in
    let members = vec_items c.args.self.now.members in
    let many : c.len.result ≡ length body = search rules in
    let more : c.len-2.result ≡ length members = search rules in
    omega (arith, length-append body (member_bytes members), members_long members)
