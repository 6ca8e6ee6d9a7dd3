use Rattle.std.proofs.Common.{◌≡◌, ℕ, Bool, true, false, cond, leb, ◌++◌, length, drop, Some, None, sym, ap, ◌∙◌, arith}
use Rattle.std.proofs.lemmas.Bool.{lt-leb, le-leb}
use Rattle.rows.specs.Views.{rows_of}
use Rattle.stores.specs.Keys.{key}
use Rattle.stores.proofs.Writing.{key_length, key_words}
use Rattle.stores.proofs.key.write_key.Goals as goal
use Rattle.stores.proofs.key.write_key.Goals.{then-words-sets-via-then-words-sets, then-words-sets-via-else-words-sets+then-words-sets-2}

pub returns-then-words-sets : goal.returns-then-words-sets
returns-then-words-sets g c =
    let k = key_length g.B.Bank.meaning c.args.rows.now c.args.sets.now in
    let short : leb (length (key g.B.Bank.meaning (rows_of c.args.rows.now) c.args.sets.now)) (length c.args.words.now) ≡ false = elim c.then-words-sets.branch [
      | then-words-sets-via-then-words-sets w ↦ lt-leb _ _ (omega (arith, k, w.if-words-sets.true))
      | then-words-sets-via-else-words-sets+then-words-sets-2 w ↦ lt-leb _ _ (omega (arith, k, w.if-words-sets.false, w.if-words-sets-2.true))
    ] in
    record {
      value = ap (λ (b : Bool). cond b (Some (length (key g.B.Bank.meaning (rows_of c.args.rows.now) c.args.sets.now))) None) (sym short);
      after = ap (λ (b : Bool). cond b (key g.B.Bank.meaning (rows_of c.args.rows.now) c.args.sets.now ++ drop (length (key g.B.Bank.meaning (rows_of c.args.rows.now) c.args.sets.now)) c.args.words.now) c.args.words.now) (sym short);
    }

pub returns : goal.returns
returns g c =
    let m = g.B.Bank.meaning in
    let k = key_length g.B.Bank.meaning c.args.rows.now c.args.sets.now in
    let long : leb (length (key g.B.Bank.meaning (rows_of c.args.rows.now) c.args.sets.now)) (length c.args.words.now) ≡ true =
    le-leb _ _ (omega (arith, k, c.if-words-sets.false, c.if-words-sets-2.false)) in
    let words = key_words g.B.Bank.meaning c.args.rows.now c.args.sets.now c.args.words.now c.write_voices.new.words c.write_traces.new.words c.write_voices.ensures c.write_traces.ensures in
    record {
      value = ap Some (sym k) ∙ ap (λ (b : Bool). cond b (Some (length (key g.B.Bank.meaning (rows_of c.args.rows.now) c.args.sets.now))) None) (sym long);
      after = words ∙ ap (λ (n : ℕ). key g.B.Bank.meaning (rows_of c.args.rows.now) c.args.sets.now ++ drop n c.args.words.now) (sym k)
          ∙ ap (λ (b : Bool). cond b (key g.B.Bank.meaning (rows_of c.args.rows.now) c.args.sets.now ++ drop (length (key g.B.Bank.meaning (rows_of c.args.rows.now) c.args.sets.now)) c.args.words.now) c.args.words.now) (sym long);
    }
