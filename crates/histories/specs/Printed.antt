-- What an answer and a reply are printed as.
use Rattle.std.specs.Prelude.{ℕ, List, ◌++◌, flat_map, codes, decimal, vec_items}
use Rattle.table.specs.Outcomes.{outcome_name}
use Rattle.table.specs.Refusals.{refusal_number}
use Rattle.histories.specs.declared.call.TableAnswer.{TableAnswer}
use Rattle.histories.specs.declared.call.TableAnswer.TheVariants.{Done, Refused, Found, None, Stopped, Wrote}
use Rattle.histories.specs.declared.reply.Reply.{Reply}
use Rattle.histories.specs.declared.reply.Progress.{Progress}

-- numbers, a space before each
abbrev pub spaced : List ℕ → List ℕ
spaced numbers = flat_map (λ n. codes " " ++ decimal n) numbers

-- as `found 1 3`, or `refused 13`, or `wrote 2: 1 3 0`
abbrev pub answer_text : TableAnswer → List ℕ
answer_text Done = codes "done"
answer_text (Refused refusal) = codes "refused " ++ decimal (refusal_number refusal)
answer_text (Found values) = codes "found" ++ spaced (vec_items values)
answer_text None = codes "none"
answer_text Stopped = codes "stopped"
answer_text (Wrote count bytes) =
    codes "wrote " ++ (decimal count ++ (codes ":" ++ spaced (vec_items bytes)))

-- as `stopped 20 7`
abbrev pub progress_text : Progress → List ℕ
progress_text s =
    outcome_name s.outcome ++
    (codes " " ++ (decimal s.opened ++ (codes " " ++ decimal s.exhausted)))

-- as `refused 13 | stopped 20 7`
abbrev pub reply_text : Reply → List ℕ
reply_text r = answer_text r.answer ++ (codes " | " ++ progress_text r.progress)
