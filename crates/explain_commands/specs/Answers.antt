-- What is written to answer a question.
use Rattle.std.specs.Prelude.{ℕ, List}
use Rattle.command_words.specs.declared.asked_flow.AskedFlow.{AskedFlow}
use Rattle.desk_state.specs.State.{State, live_ids}
use Rattle.reach_report.specs.FirstGrant.{first_grant_at}
use Rattle.reach_report.specs.Reaches.{reach_list_at}
use Rattle.reach_report.specs.ReportTexts.{explain_text, reach_text}
use Rattle.explain_commands.specs.declared.question.Question.{Question}
use Rattle.explain_commands.specs.declared.question.Question.TheVariants as question

-- by which rule of the policy in force, and by which of its destinations, a flow is granted first, between the machines
-- that are live
abbrev pub flow_answer : State → AskedFlow → List ℕ
flow_answer s flow = explain_text (first_grant_at s.policy s.rows (live_ids s) flow.source flow.dest flow.proto flow.port)

-- which live machine reaches which, and by which rule first
abbrev pub reaches_answer : State → List ℕ
reaches_answer s = reach_text (reach_list_at s.policy s.rows (live_ids s))

-- what is written in a state to answer a question
unfoldable pub answer_text : Question → State → List ℕ
answer_text (question.Flow flow) s = flow_answer s flow
answer_text question.Reaches s = reaches_answer s
