use Rattle.std.proofs.Common.{◌≡◌, ℕ, ◌+◌, ◌<◌, List, length, take, set, Ok, vec_items, Result, sym, refl, ap, ◌∙◌, subst, arith}
use Rattle.std.proofs.lemmas.List.{length-map, length-take-le}
use Rattle.std.proofs.lemmas.Result.{err_from_is_err_and}
use Rattle.rows.specs.Rows.{RowData}
use Rattle.rows.specs.Laws.{Accepted}
use Rattle.rows.specs.Bytes.{Bytes, decode, total_bytes}
use Rattle.rows.specs.Refusals.{row_number}
use Rattle.rows.specs.Reading.{row_verdict}
use Rattle.rows.specs.Views.{row_of, rows_of}
use Rattle.rows.specs.Placed.{Ready}
use Rattle.search.specs.Calls.{Answer}
use Rattle.search.specs.Calls.Call.{post}
use Rattle.table.specs.Searches.{table_of}
use Rattle.table.specs.declared.refusal.Refusal.{Refusal}
use Rattle.table.specs.Refusals.{refusal_number}
use Rattle.table.specs.Shown.{model, store_in, rows_in, done_answer}
use Rattle.table.proofs.Calling.{on_err, extends_by, refuses_kept, posts_by}
use Rattle.table.proofs.Posting.{fault, bytes_refused, rows_full, row_fits, laid_out, full_by, open_by, room_left, rows_kept, rows_pushed, bytes_pushed}
use Rattle.table.proofs.Readying.{passed_row, ready_row}
use Rattle.table.proofs.table.Table.post.Goals as goal

pub invariant_of-self : goal.invariant_of-self
invariant_of-self g c =
    let t = c.args.self.now in
    record {
      few = t.few;
      room = t.room;
      searched = t.searched;
      within = t.within;
      spare = t.spare;
      short = t.short;
      weighed = ap total_bytes (rows_kept t.rows.items t.posted c.accept_bytes.new.row) ∙ t.weighed;
      ready = subst (λ (x : List RowData). Ready g.B.Bank.meaning x (vec_items t.voices)) (sym (rows_kept t.rows.items t.posted c.accept_bytes.new.row)) t.ready;
    }

pub returns-in_err-accept_bytes : goal.returns-in_err-accept_bytes
returns-in_err-accept_bytes g c =
    let m = g.B.Bank.meaning in
    let t = c.args.self.now in
    let v = store_in t in
    let bs = c.args.bytes.now in
    let f = c.in_err-accept_bytes.field-0.0 in
    let rows = rows_of (take t.posted (set t.rows.items t.posted c.accept_bytes.new.row)) in
    let b : Bytes bs = λ i l. (c.type_inv.bytes i).fits in
    let n : c.len-voices.result ≡ length (vec_items t.voices) = omega (arith, c.len-voices.ensures, t.voices.ok.0) in
    let e : fault f ≡ row_verdict m bs (length (vec_items t.voices)) = c.in_err-accept_bytes.ensures.value ∙ ap (λ (k : ℕ). row_verdict m bs k) n in
    let p = err_from_is_err_and c.from_residual.result c.from_residual.ensures.1 in
    let a : done_answer c.from_residual.result ≡ Answer.refused (row_number f) =
    ap (λ (x : Result (Unit {0}) Refusal). done_answer x) p.1 ∙ ap (λ (x : Refusal). Answer.refused (refusal_number x)) p.2 in
    let d = refuses_kept g.S.Store.behaviour m (vec_items t.voices) (rows_in t) rows t.search v (post bs) (row_number f) (done_answer c.from_residual.result)
    (rows_kept t.rows.items t.posted c.accept_bytes.new.row) a (bytes_refused m (model t) bs f e) in
    record { does = d; history = extends_by g.S.Store.behaviour m g.met.B.Bank.lawful (model t) v (post bs) (done_answer c.from_residual.result) (table_of (vec_items t.voices) rows t.search) v b d; refused = on_err c.from_residual.result refl }

pub returns-then-not-has_room : goal.returns-then-not-has_room
returns-then-not-has_room g c =
    let m = g.B.Bank.meaning in
    let t = c.args.self.now in
    let v = store_in t in
    let bs = c.args.bytes.now in
    let rows = rows_of (take t.posted (set t.rows.items t.posted c.accept_bytes.new.row)) in
    let kept = rows_kept t.rows.items t.posted c.accept_bytes.new.row in
    let b : Bytes bs = λ i l. (c.type_inv.bytes i).fits in
    let n : c.len-voices.result ≡ length (vec_items t.voices) = omega (arith, c.len-voices.ensures, t.voices.ok.0) in
    let e : Ok c.in_ok-accept_bytes.field-0 ≡ row_verdict m bs (length (vec_items t.voices)) = c.in_ok-accept_bytes.ensures.value ∙ ap (λ (k : ℕ). row_verdict m bs k) n in
    let full = full_by (rows_in t) rows (length bs) kept c.if-not-has_room.ensures in
    let d = refuses_kept g.S.Store.behaviour m (vec_items t.voices) (rows_in t) rows t.search v (post bs) 12 (Answer.refused 12) kept refl
    (rows_full m (model t) bs c.in_ok-accept_bytes.field-0 e full) in
    record { does = d; history = extends_by g.S.Store.behaviour m g.met.B.Bank.lawful (model t) v (post bs) (Answer.refused 12) (table_of (vec_items t.voices) rows t.search) v b d; refused = refl }

pub invariant_of-self-2 : goal.invariant_of-self-2
invariant_of-self-2 g c =
    let m = g.B.Bank.meaning in
    let t = c.args.self.now in
    let bs = c.args.bytes.now in
    let r = c.accept_bytes.new.row in
    let kept = rows_kept t.rows.items t.posted r in
    let b : Bytes bs = λ i l. (c.type_inv.bytes i).fits in
    let k : t.posted < length t.rows.items = omega (arith, t.within, t.spare, t.rows.ok.0) in
    let n : c.len-voices.result ≡ length (vec_items t.voices) = omega (arith, c.len-voices.ensures, t.voices.ok.0) in
    let size : length (rows_in t) ≡ t.posted = length-map (take t.posted t.rows.items) row_of ∙ length-take-le t.posted t.rows.items (omega arith) in
    let left = room_left (rows_in t) (length bs) (open_by (rows_in t) (rows_of (take t.posted (set t.rows.items t.posted r))) (length bs) kept c.if-not-has_room.ensures) in
    let l = laid_out m bs c.len-voices.result c.in_ok-accept_bytes.field-0 c.in_ok-accept_bytes.ensures.value in
    let pushed = rows_pushed m t.rows.items t.posted r bs (row_of c.index_mut.result.now) k l c.in_ok-accept_bytes.ensures.after in
    record {
      few = t.few;
      room = t.room;
      searched = c.restart.ensures.voices ∙ c.len-voices.ensures;
      within = omega (arith, left.0, size);
      spare = t.spare;
      short = omega (arith, left.1, t.weighed);
      weighed = bytes_pushed m (rows_in t) (rows_of (take (t.posted + 1) (set t.rows.items t.posted r))) bs t.bytes b l pushed t.weighed;
      ready = ready_row m (rows_in t) (rows_of (take (t.posted + 1) (set t.rows.items t.posted r))) (vec_items t.voices) (decode m bs) pushed
          (subst (Accepted m (decode m bs)) n (passed_row m bs c.len-voices.result c.in_ok-accept_bytes.field-0 b c.in_ok-accept_bytes.ensures.value)) t.ready;
    }

pub returns : goal.returns
returns g c =
    let m = g.B.Bank.meaning in
    let t = c.args.self.now in
    let s = c.restart.new.self in
    let v = store_in t in
    let w = g.S.Store.state c.clear.new.self in
    let bs = c.args.bytes.now in
    let r = c.accept_bytes.new.row in
    let before = rows_of (take t.posted (set t.rows.items t.posted r)) in
    let rows = rows_of (take (t.posted + 1) (set t.rows.items t.posted r)) in
    let kept = rows_kept t.rows.items t.posted r in
    let b : Bytes bs = λ i l. (c.type_inv.bytes i).fits in
    let k : t.posted < length t.rows.items = omega (arith, t.within, t.spare, t.rows.ok.0) in
    let n : c.len-voices.result ≡ length (vec_items t.voices) = omega (arith, c.len-voices.ensures, t.voices.ok.0) in
    let e : Ok c.in_ok-accept_bytes.field-0 ≡ row_verdict m bs (length (vec_items t.voices)) = c.in_ok-accept_bytes.ensures.value ∙ ap (λ (i : ℕ). row_verdict m bs i) n in
    let l = laid_out m bs (length (vec_items t.voices)) c.in_ok-accept_bytes.field-0 e in
    let pushed = rows_pushed m t.rows.items t.posted r bs (row_of c.index_mut.result.now) k l c.in_ok-accept_bytes.ensures.after in
    let room = open_by (rows_in t) before (length bs) kept c.if-not-has_room.ensures in
    let d = posts_by g.S.Store.behaviour m (vec_items t.voices) (rows_in t) rows t.search s v w bs _ pushed c.restart.ensures
    (row_fits m (model t) bs c.in_ok-accept_bytes.field-0 e room) c.clear.ensures in
    record { does = d; history = extends_by g.S.Store.behaviour m g.met.B.Bank.lawful (model t) v (post bs) Answer.done (table_of (vec_items t.voices) rows s) w b d; refused = tt }
