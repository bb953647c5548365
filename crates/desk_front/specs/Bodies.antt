-- The bodies of answers.
use Rattle.std.specs.Prelude.{ℕ, List, [], None, Some, codes}
use Rattle.admin_asks.specs.declared.operator_answer.OperatorAnswer.{OperatorAnswer}
use Rattle.admin_asks.specs.declared.operator_answer.OperatorAnswer.TheVariants as operator
use Rattle.wire_admin.specs.Extras.{extras_text}
use Rattle.wire_admin.specs.Keys.{key_text, keys_text}
use Rattle.wire_admin.specs.Nodes.{node_text, nodes_text}
use Rattle.wire_admin.specs.Swept.{swept_text}
use Rattle.wire_admin.specs.Users.{user_text, users_text}
use Rattle.wire_admin.specs.Waiting.{waiting_text}
use Rattle.machine_asks.specs.declared.answer.MachineAnswer.{MachineAnswer}
use Rattle.machine_asks.specs.declared.answer.MachineAnswer.TheVariants as machine
use Rattle.fresh_maps.specs.Frames.{frame_of}
use Rattle.fresh_maps.specs.Responses.{first_response}
use Rattle.policy_asks.specs.declared.answer.PolicyAnswer.{PolicyAnswer}
use Rattle.policy_asks.specs.declared.answer.PolicyAnswer.TheVariants as policy
use Rattle.tailnet_desk.specs.declared.reply.Answer.{Answer}
use Rattle.tailnet_desk.specs.declared.reply.Answer.TheVariants.{Machine, Operator, Policy, Seeded}
use Rattle.wire_write.specs.Registered.{registered_text, login_at_text}

-- what a machine is answered, with the URL at which the server is reached
abbrev pub machine_body : List ℕ → MachineAnswer → List ℕ
machine_body url (machine.Registered profile expired) = registered_text profile expired
machine_body url (machine.LoginAt pending) = login_at_text url pending
machine_body url machine.Updated = []
machine_body url (machine.Map view) = frame_of (first_response view None None)

-- what an operator is answered
abbrev pub operator_body : OperatorAnswer → List ℕ
operator_body (operator.User user) = user_text user
operator_body (operator.Users users) = users_text users
operator_body (operator.Key key) = key_text key
operator_body (operator.Keys keys) = keys_text keys
operator_body (operator.Nodes nodes) = nodes_text nodes
operator_body (operator.Waiting waiting) = waiting_text waiting
operator_body (operator.Node node) = node_text node
operator_body (operator.Extras extras) = extras_text extras
operator_body (operator.Swept machines pending) = swept_text machines pending
operator_body operator.Gone = codes "{}"

-- what an operator is answered on the policy: its text, as it was saved
abbrev pub policy_body : PolicyAnswer → List ℕ
policy_body (policy.PolicyText (Some text)) = text
policy_body (policy.PolicyText None) = codes "{}"
policy_body policy.Saved = codes "{}"

-- the body of an answer
abbrev pub answer_body : List ℕ → Answer → List ℕ
answer_body url Seeded = codes "{}"
answer_body url (Machine a) = machine_body url a
answer_body url (Operator a) = operator_body a
answer_body url (Policy a) = policy_body a
