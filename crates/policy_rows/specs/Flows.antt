-- Flows: what an entry of `ip` names, ports with or without a protocol in front of the first colon.
use Rattle.std.specs.Prelude.{ℕ, ◌||◌, not, List, codes, Option, Some, None, Result, Ok, option_map, if◌then◌else◌}
use Rattle.std.specs.List.{after_first, before_first, list_any}
use Rattle.std.specs.Str.{bytes_eq}
use Rattle.tail_base.specs.Steps.{◌>>=◌, or_fault, refuse_unless}
use Rattle.port_sets.specs.PortTexts.{is_comma}
use Rattle.port_sets.specs.Protocols.{proto_of_text}
use Rattle.policy_rows.specs.declared.code.PolicyCode.TheVariants as code
use Rattle.policy_rows.specs.declared.fault.PolicyFault.{PolicyFault}
use Rattle.policy_rows.specs.declared.flow.Flow.{Flow}
use Rattle.policy_rows.specs.Dests.{needs_star, ports_at}
use Rattle.policy_rows.specs.Faults.{fault_at}
use Rattle.policy_rows.specs.Selectors.{is_colon}

-- the protocol in front of the first colon; without a colon none is given
abbrev pub protocol_part : List ℕ → List ℕ → Result (Option ℕ) PolicyFault
protocol_part place text =
    if list_any is_colon text
    then or_fault (fault_at code.BadProto place) (option_map Some (proto_of_text (before_first is_colon text)))
    else Ok None

-- what stands behind the first colon; without a colon that is all
abbrev pub flow_ports : List ℕ → List ℕ
flow_ports text = if list_any is_colon text then after_first is_colon text else text

-- the protocol, if one is given, and the ports: one number, two with a hyphen between, or all; where
-- only all ports may stand, they are written `*`
unfoldable pub flow_at : List ℕ → List ℕ → Result Flow PolicyFault
flow_at place text = do
  proto ← protocol_part place text
  _ ← refuse_unless (not (list_any is_comma (flow_ports text))) (fault_at code.BadPorts place)
  ports ← ports_at code.BadPorts place (flow_ports text)
  _ ← refuse_unless (not (needs_star proto) || bytes_eq (flow_ports text) (codes "*")) (fault_at code.PortsForProto place)
  Ok (record { protos = proto; ports = ports })
