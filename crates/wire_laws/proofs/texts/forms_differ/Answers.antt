use Rattle.wire_laws.proofs.DnsForms.{dns_tell}
use Rattle.wire_laws.proofs.FilterForms.{rules_tell}
use Rattle.wire_laws.proofs.NodeForms.{nodes_tell, patches_tell, profiles_tell}
use Rattle.wire_laws.proofs.texts.forms_differ.Goals as goal

pub returns : goal.returns
returns c = record {
  nodes = nodes_tell;
  patches = patches_tell;
  profiles = profiles_tell;
  rules = rules_tell;
  dns = dns_tell;
}
