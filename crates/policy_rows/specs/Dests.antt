-- Destinations: a selector, a colon, and ports; the last colon parts them.
use Rattle.std.specs.Prelude.{ℕ, ◌==◌, ◌||◌, Bool, false, not, List, [], ◌∷◌, codes, Option, Some, None, Result, Ok, Err}
use Rattle.std.specs.List.{after_last, before_last, list_any}
use Rattle.std.specs.Str.{bytes_eq}
use Rattle.tail_base.specs.Steps.{◌>>=◌, refuse_unless}
use Rattle.port_sets.specs.declared.fault.PortFault.{PortFault}
use Rattle.port_sets.specs.declared.fault.PortFault.TheVariants as port
use Rattle.port_sets.specs.declared.range.PortRange.{PortRange}
use Rattle.port_sets.specs.PortTexts.{ports_of_text}
use Rattle.port_sets.specs.Protocols.{is_ported}
use Rattle.policy_rows.specs.declared.code.PolicyCode.{PolicyCode}
use Rattle.policy_rows.specs.declared.code.PolicyCode.TheVariants as code
use Rattle.policy_rows.specs.declared.dest.Dest.{Dest}
use Rattle.policy_rows.specs.declared.fault.PolicyFault.{PolicyFault}
use Rattle.policy_rows.specs.declared.names.Names.{Names}
use Rattle.policy_rows.specs.Faults.{fault_at}
use Rattle.policy_rows.specs.Selectors.{is_colon, selector_at, test_end_at}

-- the code of a fault of ports: ill-formed ones have that code
abbrev pub ports_code : PolicyCode → PortFault → PolicyCode
ports_code ill port.BadNumber = ill
ports_code ill port.Reversed = ill
ports_code ill port.TooMany = code.TooMany

-- the ports that were read, or their fault
abbrev pub ports_from : PolicyCode → List ℕ → Result (List PortRange) PortFault → Result (List PortRange) PolicyFault
ports_from ill place (Ok ports) = Ok ports
ports_from ill place (Err fault) = Err (fault_at (ports_code ill fault) place)

-- the ports that a text names
abbrev pub ports_at : PolicyCode → List ℕ → List ℕ → Result (List PortRange) PolicyFault
ports_at ill place text = ports_from ill place (ports_of_text text)

-- a protocol is given, and it has no ports
abbrev pub needs_star : Option ℕ → Bool
needs_star None = false
needs_star (Some proto) = not (is_ported proto)

-- the destination of a rule; where only all ports may stand, they are written `*`
unfoldable pub dest_at : Bool → Names → List ℕ → List ℕ → Result Dest PolicyFault
dest_at only_all names place text = do
  _ ← refuse_unless (list_any is_colon text) (fault_at code.BadPorts place)
  to ← selector_at names place (before_last is_colon text)
  ports ← ports_at code.BadPorts place (after_last is_colon text)
  _ ← refuse_unless (not only_all || bytes_eq (after_last is_colon text) (codes "*")) (fault_at code.PortsForProto place)
  Ok (record { to = to; ports = ports })

-- there is exactly one port
abbrev pub is_one_port : List PortRange → Bool
is_one_port [] = false
is_one_port (range ∷ []) = range.first == range.last
is_one_port (range ∷ more ∷ ranges) = false

-- the destination of a test
unfoldable pub test_dest_at : Names → List ℕ → List ℕ → Result Dest PolicyFault
test_dest_at names place text = do
  _ ← refuse_unless (list_any is_colon text) (fault_at code.BadTest place)
  to ← test_end_at names place (before_last is_colon text)
  ports ← ports_at code.BadTest place (after_last is_colon text)
  _ ← refuse_unless (is_one_port ports) (fault_at code.BadTest place)
  Ok (record { to = to; ports = ports })
