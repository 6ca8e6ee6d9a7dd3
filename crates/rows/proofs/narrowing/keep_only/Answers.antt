use Rattle.std.proofs.Common.{◌≡◌, not, eqb, ◌^◌, ◌<◌, ◌≤◌, length, get_or, set, sym, ap, ◌∙◌, rules}
use lib.Bits.{bit_and}
use Rattle.std.proofs.lemmas.List.{get_or-set_same}
use Rattle.sets.specs.Sets.{has}
use Rattle.rows.proofs.Cuts.{cut_past}
use Rattle.rows.proofs.Narrowed.{cut_and, changed_set, unchanged}
use Rattle.rows.proofs.narrowing.keep_only.Goals as goal

pub returns-then-place-sets : goal.returns-then-place-sets
returns-then-place-sets c =
    let past : length c.args.sets.now ≤ c.args.voice = search rules in
    record {
      after = sym (cut_past c.args.voice (has c.args.kept) c.args.sets.now past);
      value = sym (unchanged c.args.sets.now);
    }

pub returns : goal.returns
returns c =
    let fits : get_or c.args.sets.now c.args.voice 0 < 2 ^ 64 = search rules in
    let here : c.from-place.result < length c.args.sets.now = search rules in
    let at : c.from-place.result ≡ c.args.voice = search rules in
    record {
      after = ap (λ p. set c.args.sets.now p (bit_and (get_or c.args.sets.now p 0) c.args.kept)) at
          ∙ sym (cut_and c.args.voice c.args.kept c.args.sets.now fits);
      value = ap (λ x. not (eqb x (get_or c.args.sets.now c.from-place.result 0)))
          (get_or-set_same c.args.sets.now c.from-place.result (bit_and (get_or c.args.sets.now c.from-place.result 0) c.args.kept) 0 here)
          ∙ sym (changed_set c.args.sets.now c.from-place.result (bit_and (get_or c.args.sets.now c.from-place.result 0) c.args.kept) here);
    }
