-- What operators want.
use Rattle.std.specs.Prelude.{ℕ, List, Bool, false, ◌&&◌, Option, None, Some, codes, take, drop}
use Rattle.std.specs.Str.{bytes_eq}
use Rattle.wire_admin.specs.ExtraForms.{extras_form_of_body}
use Rattle.wire_admin.specs.Forms.{admit_form_of_body, empty_form_of_body, expiry_form_of_body, key_form_of_body, rename_form_of_body, routes_form_of_body, tags_form_of_body, user_form_of_body}
use Rattle.wire_admin.specs.declared.forms.AdmitForm.{AdmitForm}
use Rattle.path_routes.specs.Finds.{text_of}
use Rattle.admin_asks.specs.declared.operator_ask.OperatorAsk.{OperatorAsk}
use Rattle.admin_asks.specs.declared.operator_ask.OperatorAsk.TheVariants as ask
use Rattle.policy_asks.specs.declared.ask.PolicyAsk.{PolicyAsk}
use Rattle.policy_asks.specs.declared.ask.PolicyAsk.TheVariants as policy
use Rattle.tailnet_desk.specs.declared.ask.Ask.TheVariants.{Operator, Policy}
use Rattle.wire_json.specs.declared.fault.WireFault.TheVariants as fault
use Rattle.desk_front.specs.Faults.{body_answer, fault_answer, unless_faulty}
use Rattle.desk_front.specs.declared.action.OperatorAction.{OperatorAction}
use Rattle.desk_front.specs.declared.action.OperatorAction.TheVariants as action
use Rattle.desk_front.specs.declared.want.Wanted.{Wanted}
use Rattle.desk_front.specs.declared.want.Wanted.TheVariants as wants

-- the value of the first `Authorization` line is `Bearer`, a space and the token (RFC 6750,
-- section 2.1)
abbrev pub is_authorized : List ℕ → Option (List ℕ) → Bool
is_authorized token None = false
is_authorized token (Some given) =
    bytes_eq (take 7 given) (codes "Bearer ") && bytes_eq (drop 7 given) token

-- an operator's ask
abbrev pub operator_ask : OperatorAsk → Wanted
operator_ask x = wants.Ask (Operator x)

-- an operator's ask on the policy
abbrev pub policy_ask : PolicyAsk → Wanted
policy_ask x = wants.Ask (Policy x)

abbrev pub add_user_wants : List ℕ → Wanted
add_user_wants body =
    unless_faulty (λ name. operator_ask (ask.AddUser name)) (user_form_of_body body)

abbrev pub drop_user : Option (List ℕ) → Wanted
drop_user (Some login) = operator_ask (ask.DropUser login)
drop_user None = fault_answer 404 (codes "NoPath")

-- the user whom the path names
abbrev pub drop_user_wants : List ℕ → Wanted
drop_user_wants owner = drop_user (text_of owner)

abbrev pub add_key_wants : List ℕ → Wanted
add_key_wants body = unless_faulty (λ form. operator_ask (ask.AddKey form)) (key_form_of_body body)

abbrev pub expire_node_wants : ℕ → List ℕ → Wanted
expire_node_wants id body =
    unless_faulty (λ expiry. operator_ask (ask.ExpireNode id expiry)) (expiry_form_of_body body)

abbrev pub rename_wants : ℕ → List ℕ → Wanted
rename_wants id body =
    unless_faulty (λ name. operator_ask (ask.Rename id name)) (rename_form_of_body body)

abbrev pub set_tags_wants : ℕ → List ℕ → Wanted
set_tags_wants id body =
    unless_faulty (λ tags. operator_ask (ask.SetTags id tags)) (tags_form_of_body body)

abbrev pub set_routes_wants : ℕ → List ℕ → Wanted
set_routes_wants id body =
    unless_faulty (λ routes. operator_ask (ask.SetRoutes id routes)) (routes_form_of_body body)

abbrev pub admit_wants : List ℕ → Wanted
admit_wants body =
    unless_faulty (λ (form : AdmitForm). operator_ask (ask.Admit form.pending form.login))
    (admit_form_of_body body)

abbrev pub set_extras_wants : List ℕ → Wanted
set_extras_wants body =
    unless_faulty (λ extras. operator_ask (ask.SetExtras extras)) (extras_form_of_body body)

abbrev pub sweep_wants : List ℕ → Wanted
sweep_wants body = unless_faulty (λ _. operator_ask ask.Sweep) (empty_form_of_body body)

abbrev pub save_policy : Option (List ℕ) → Wanted
save_policy (Some text) = policy_ask (policy.SavePolicy text)
save_policy None = body_answer fault.NotJson

-- the body is the text of the policy, if it is UTF-8
abbrev pub save_policy_wants : List ℕ → Wanted
save_policy_wants body = save_policy (text_of body)

-- what an operator wants, with the id in the path and the segment that names a row
abbrev pub admin_wants : OperatorAction → ℕ → List ℕ → List ℕ → Wanted
admin_wants action.Users id owner body = operator_ask ask.Users
admin_wants action.AddUser id owner body = add_user_wants body
admin_wants action.DropUser id owner body = drop_user_wants owner
admin_wants action.Keys id owner body = operator_ask ask.Keys
admin_wants action.AddKey id owner body = add_key_wants body
admin_wants action.ExpireKey id owner body = operator_ask (ask.ExpireKey id)
admin_wants action.Nodes id owner body = operator_ask ask.Nodes
admin_wants action.DropNode id owner body = operator_ask (ask.DropNode id)
admin_wants action.ExpireNode id owner body = expire_node_wants id body
admin_wants action.Rename id owner body = rename_wants id body
admin_wants action.SetTags id owner body = set_tags_wants id body
admin_wants action.SetRoutes id owner body = set_routes_wants id body
admin_wants action.Waiting id owner body = operator_ask ask.Waiting
admin_wants action.Admit id owner body = admit_wants body
admin_wants action.Policy id owner body = policy_ask policy.Policy
admin_wants action.SavePolicy id owner body = save_policy_wants body
admin_wants action.Extras id owner body = operator_ask ask.Extras
admin_wants action.SetExtras id owner body = set_extras_wants body
admin_wants action.Sweep id owner body = sweep_wants body
