-- The texts of responses tell them.
use Rattle.std.proofs.Common.{◌≡◌, ℕ, List, [], ◌∷◌, Option, None, Some, arith, refl}
use Rattle.std.specs.Prelude.{codes, IfSome, option_map, ⊤}
use Rattle.std.specs.List.{AllByRecursion}
use Rattle.serde_json.specs.Data.{string}
use Rattle.tailcfg.specs.declared.response.Response.{Response}
use Rattle.wire_write.specs.Dns.{dns_data}
use Rattle.wire_write.specs.Filters.{rule_data}
use Rattle.wire_write.specs.Nodes.{node_data, patch_data, profile_data}
use Rattle.wire_write.specs.Parts.{array_data, number_data, some_array}
use Rattle.wire_write.specs.Responses.{changed_members, peer_members, response_data, response_text}
use Rattle.response_values.specs.Dns.{IsTypedDns}
use Rattle.response_values.specs.Filters.{IsTypedRule}
use Rattle.response_values.specs.Nodes.{IsTypedNode, IsTypedPatch, IsTypedProfile}
use Rattle.response_values.specs.Values.{FitsWord}
use Rattle.wire_laws.specs.Dns.{DoSuffixesRise, IsWrittenDns}
use Rattle.wire_laws.specs.Nodes.{EndsLater, IsWrittenNode}
use Rattle.wire_laws.specs.Responses.{IsWritten}
use Rattle.wire_laws.specs.Trees.{IsTree}
use Rattle.wire_laws.proofs.DnsForms.{dns_grow, dns_tell}
use Rattle.wire_laws.proofs.FilterForms.{rules_grow, rules_tell}
use Rattle.wire_laws.proofs.FormLemmas.{arrays_grow, arrays_tell, lists_grow, lists_tell, numbers_tell, objects_tell, options_grow, options_tell, strings_tell}
use Rattle.wire_laws.proofs.MemberLemmas.{Named, optional_grow, optional_tell}
use Rattle.wire_laws.proofs.NodeForms.{always, nodes_grow, nodes_tell, patches_grow, patches_tell, profiles_grow, profiles_tell}
use Rattle.wire_laws.proofs.TreeLemmas.{texts_tell_trees}

abbrev pub changed_list : Response → List Named
changed_list r =
    (codes "PeersChanged", some_array node_data r.changed) ∷ (codes "PeersChangedPatch", some_array patch_data r.patches)
    ∷ (codes "PeersRemoved", some_array number_data r.removed) ∷ (codes "Seq", option_map number_data r.seq)
    ∷ (codes "UserProfiles", some_array profile_data r.profiles) ∷ []

abbrev pub response_list : Response → List Named
response_list r =
    (codes "DNSConfig", option_map dns_data r.dns) ∷ (codes "Domain", option_map string r.domain)
    ∷ (codes "MapSessionHandle", option_map string r.handle) ∷ (codes "Node", option_map node_data r.node)
    ∷ (codes "PacketFilter", option_map (array_data rule_data) r.filter) ∷ (codes "Peers", some_array node_data r.peers)
    ∷ changed_list r

text_options_tell : (o p : Option (List ℕ)) → option_map string o ≡ option_map string p → o ≡ p
text_options_tell o p e = options_tell string (λ s. ⊤) (λ s t h k. strings_tell s t) o p (always o) (always p) e

-- ---- both of what is typed and what else holds

pub both : {X : Type 0} (P Q : X → Type 0) (o : Option X) → IfSome o P → IfSome o Q → IfSome o (λ x. P x × Q x)
both P Q None p q = tt
both P Q (Some x) p q = (p, q)

pub each_both : {X : Type 0} (P Q : X → Type 0) (xs : List X) → AllByRecursion P xs → AllByRecursion Q xs → AllByRecursion (λ x. P x × Q x) xs
each_both P Q [] p q = tt
each_both P Q (x ∷ xs) p q = ((p.0, q.0), each_both P Q xs p.1 q.1)

pub node_written : (r : Response) → IsWritten r → IfSome r.node IsWrittenNode
node_written r h = both IsTypedNode EndsLater r.node h.typed.node h.node

pub dns_written : (r : Response) → IsWritten r → IfSome r.dns IsWrittenDns
dns_written r h = both IsTypedDns DoSuffixesRise r.dns h.typed.dns h.dns

pub peers_written : (r : Response) → IsWritten r → AllByRecursion IsWrittenNode r.peers
peers_written r h = each_both IsTypedNode EndsLater r.peers h.typed.peers h.peers

pub changed_written : (r : Response) → IsWritten r → AllByRecursion IsWrittenNode r.changed
changed_written r h = each_both IsTypedNode EndsLater r.changed h.typed.changed h.changed

pub responses_tell : (a b : Response) → IsWritten a → IsWritten b → response_data a ≡ response_data b → a ≡ b
unfolding response_data peer_members changed_members
responses_tell a b p q e =
    let same = optional_tell (response_list a) (response_list b) refl refl refl (objects_tell _ _ e) in
    let later = same.1.1.1.1.1.1 in
    let dns = options_tell dns_data IsWrittenDns dns_tell a.dns b.dns (dns_written a p) (dns_written b q) same.0 in
    let node = options_tell node_data IsWrittenNode nodes_tell a.node b.node (node_written a p) (node_written b q) same.1.1.1.0 in
    let filter = options_tell (array_data rule_data) (AllByRecursion IsTypedRule) (arrays_tell rule_data IsTypedRule rules_tell) a.filter b.filter p.typed.filter q.typed.filter same.1.1.1.1.0 in
    let seq = options_tell number_data FitsWord (λ m n h k. numbers_tell m n) a.seq b.seq p.typed.seq q.typed.seq later.1.1.1.0 in
    λ i. record {
      handle = text_options_tell a.handle b.handle same.1.1.0 i;
      seq = seq i;
      node = node i;
      filter = filter i;
      dns = dns i;
      domain = text_options_tell a.domain b.domain same.1.0 i;
      peers = lists_tell node_data IsWrittenNode nodes_tell a.peers b.peers (peers_written a p) (peers_written b q) same.1.1.1.1.1.0 i;
      changed = lists_tell node_data IsWrittenNode nodes_tell a.changed b.changed (changed_written a p) (changed_written b q) later.0 i;
      removed = lists_tell number_data FitsWord (λ m n h k. numbers_tell m n) a.removed b.removed p.typed.removed q.typed.removed later.1.1.0 i;
      patches = lists_tell patch_data IsTypedPatch patches_tell a.patches b.patches p.typed.patches q.typed.patches later.1.0 i;
      profiles = lists_tell profile_data IsTypedProfile (λ x y h k. profiles_tell x y) a.profiles b.profiles p.typed.profiles q.typed.profiles later.1.1.1.1.0 i;
    }

-- how deep a response nests, and no reader minds
abbrev pub deep : ℕ
deep = 7

text_options_grow : (n : ℕ) (o : Option (List ℕ)) → IfSome (option_map string o) (IsTree n)
text_options_grow n o = options_grow string (λ s. ⊤) n (λ s k. tt) o (always o)

pub response_grows : (r : Response) → IsWritten r → IsTree deep (response_data r)
unfolding response_data peer_members changed_members
response_grows r h =
    optional_grow 6 (response_list r) (
      options_grow dns_data IsWrittenDns 6 (dns_grow 2) r.dns (dns_written r h),
      (
        text_options_grow 6 r.domain,
        (
          text_options_grow 6 r.handle,
          (
            options_grow node_data IsWrittenNode 6 (nodes_grow 4) r.node (node_written r h),
            (
              options_grow (array_data rule_data) (AllByRecursion IsTypedRule) 6 (arrays_grow rule_data IsTypedRule 5 (rules_grow 1)) r.filter h.typed.filter,
              (
                lists_grow node_data IsWrittenNode 5 (nodes_grow 3) r.peers (peers_written r h),
                (
                  lists_grow node_data IsWrittenNode 5 (nodes_grow 3) r.changed (changed_written r h),
                  (
                    lists_grow patch_data IsTypedPatch 5 (patches_grow 3) r.patches h.typed.patches,
                    (
                      lists_grow number_data FitsWord 5 (λ m k. k) r.removed h.typed.removed,
                      (
                        options_grow number_data FitsWord 6 (λ m k. k) r.seq h.typed.seq,
                        (lists_grow profile_data IsTypedProfile 5 (profiles_grow 4) r.profiles h.typed.profiles, tt),
                      ),
                    ),
                  ),
                ),
              ),
            ),
          ),
        ),
      ),
    )

pub texts_tell_responses : (a b : Response) → IsWritten a → IsWritten b → response_text a ≡ response_text b → a ≡ b
texts_tell_responses a b p q e =
    responses_tell a b p q (texts_tell_trees deep (response_data a) (response_data b) (omega arith) (response_grows a p) (response_grows b q) e)
