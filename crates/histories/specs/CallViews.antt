-- What the code's calls, answers and replies mean.
use Rattle.std.specs.Prelude.{Bool, true, false, List, map, vec_items}
use Rattle.search.specs.Calls as calls
use Rattle.table.specs.Searches.{outcome_of}
use Rattle.table.specs.Refusals.{refusal_number}
use Rattle.histories.specs.declared.call.TableCall.{TableCall}
use Rattle.histories.specs.declared.call.TableCall.TheVariants.{Declare, Post, Solve, Read, Wipe}
use Rattle.histories.specs.declared.call.TableAnswer.{TableAnswer}
use Rattle.histories.specs.declared.call.TableAnswer.TheVariants.{Done, Refused, Found, None, Stopped, Wrote}
use Rattle.histories.specs.declared.reply.Reply.{Reply}
use Rattle.histories.specs.declared.reply.Progress.{Progress}

abbrev pub call_of : TableCall → calls.Call
call_of (Declare set) = calls.Call.declare set
call_of (Post bytes) = calls.Call.post (vec_items bytes)
call_of (Solve budget) = calls.Call.solve budget
call_of (Read bytes) = calls.Call.read (vec_items bytes)
call_of Wipe = calls.Call.wipe

-- a Solve needs memory for the values, and a Read for its copy of the bytes
abbrev pub needs_memory : TableCall → Bool
needs_memory (Declare set) = false
needs_memory (Post bytes) = false
needs_memory (Solve budget) = true
needs_memory (Read bytes) = true
needs_memory Wipe = false

abbrev pub answer_of : TableAnswer → calls.Answer
answer_of Done = calls.Answer.done
answer_of (Refused refusal) = calls.Answer.refused (refusal_number refusal)
answer_of (Found values) = calls.Answer.found (vec_items values)
answer_of None = calls.Answer.none
answer_of Stopped = calls.Answer.stopped
answer_of (Wrote count bytes) = calls.Answer.wrote count (vec_items bytes)

abbrev pub calls_of : List TableCall → List calls.Call
calls_of calls = map call_of calls

abbrev pub answers_of : List Reply → List calls.Answer
answers_of replies = map (λ r. answer_of r.answer) replies

abbrev pub progresses_of : List Reply → List Progress
progresses_of replies = map (λ r. r.progress) replies

-- how far the search of a table is
abbrev pub progress_of : calls.TableData → Progress
progress_of t = record { outcome = outcome_of t.status; opened = t.opened; exhausted = t.exhausted }
