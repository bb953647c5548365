-- The texts of responses are read back.
use Rattle.std.proofs.Common.{◌≡◌, ◌<◌, ℕ, List, [], ◌∷◌, Option, Some, None, arith, refl, ap, ◌∙◌}
use Rattle.std.specs.Prelude.{codes, IfSome, IsUtf8, Ok, option_map, option_and_then, ⊤}
use Rattle.std.specs.Result.{result_ok}
use Rattle.std.specs.List.{AllByRecursion}
use Rattle.serde_json.specs.Data.{Data, string}
use Rattle.tailcfg.specs.declared.dns.Dns.{Dns}
use Rattle.tailcfg.specs.declared.filter.FilterRule.{FilterRule}
use Rattle.tailcfg.specs.declared.node_row.NodeRow.{NodeRow}
use Rattle.tailcfg.specs.declared.response.Response.{Response}
use Rattle.wire_json.specs.Body.{object_at, unless_null}
use Rattle.wire_json.proofs.BodyLemmas.{body_some}
use Rattle.wire_write.specs.Dns.{dns_data}
use Rattle.wire_write.specs.Filters.{rule_data}
use Rattle.wire_write.specs.Nodes.{node_data, patch_data, profile_data}
use Rattle.wire_write.specs.Parts.{array_data, number_data}
use Rattle.wire_write.specs.Responses.{changed_members, peer_members, response_data, response_text}
use Rattle.response_values.specs.Filters.{IsTypedRule}
use Rattle.response_values.specs.Nodes.{IsTypedNode, IsTypedPatch, IsTypedProfile}
use Rattle.response_values.specs.Values.{FitsWord}
use Rattle.wire_laws.specs.Dns.{IsWrittenDns}
use Rattle.wire_laws.specs.Nodes.{IsWrittenNode}
use Rattle.wire_laws.specs.Responses.{IsWritten}
use Rattle.wire_laws.proofs.NodeForms.{always}
use Rattle.wire_laws.proofs.ResponseForms.{both, changed_written, deep, dns_written, each_both, node_written, peers_written, response_grows, response_list}
use Rattle.response_read.specs.Dns.{dns_settings_at}
use Rattle.response_read.specs.Filters.{filter_rule_at}
use Rattle.response_read.specs.Members.{all_given, all_read, all_there, if_given, if_there}
use Rattle.response_read.specs.Nodes.{node_at, peer_change_at, profile_at}
use Rattle.response_read.specs.Responses.{response_at, response_of_body, with_own, with_peers, with_session}
use Rattle.response_read.specs.Values.{id_at, seq_at, words_at}
use Rattle.response_laws.specs.Sizes.{IsId, IsSizedResponse, IsSizedNode, IsSizedPatch, IsSizedProfile, IsSizedRule}
use Rattle.response_laws.specs.Told.{DoProtosRise, IsNumbered}
use Rattle.response_laws.proofs.DnsBack.{dns_back, dns_read}
use Rattle.response_laws.proofs.FilterBack.{IsRule, rules_back, rules_read}
use Rattle.response_laws.proofs.Finding.{member_found}
use Rattle.response_laws.proofs.NodeBack.{IsNode, IsPatch, nodes_back, nodes_read, patches_back, patches_read, profiles_back, profiles_read}
use Rattle.response_laws.proofs.Reading.{Reads, arrays_read, lists_read, number_reads, optional_read, options_read, text_read}
use Rattle.response_laws.proofs.Steps.{arrays_back, lists_back, options_back}
use Rattle.response_laws.proofs.ValueBack.{ids_back, seqs_back}

response_from : (d : Data) (r : Response) → if_given (codes "DNSConfig") dns_settings_at d ≡ Ok r.dns → if_given (codes "Domain") words_at d ≡ Ok r.domain → if_given (codes "MapSessionHandle") words_at d ≡ Ok r.handle
    → if_given (codes "Node") node_at d ≡ Ok r.node → if_given (codes "PacketFilter") (all_read filter_rule_at) d ≡ Ok r.filter → all_given (codes "Peers") node_at d ≡ Ok r.peers → all_given (codes "PeersChanged") node_at d ≡ Ok r.changed
    → all_given (codes "PeersChangedPatch") peer_change_at d ≡ Ok r.patches → all_given (codes "PeersRemoved") id_at d ≡ Ok r.removed → if_given (codes "Seq") seq_at d ≡ Ok r.seq → all_given (codes "UserProfiles") profile_at d ≡ Ok r.profiles
    → response_at d ≡ Ok r
unfolding response_at with_own with_peers with_session
response_from d r dns domain handle node filter peers changed patches removed seq profiles =
    rw (dns, domain, node, filter, peers, changed, patches, removed, profiles, handle, seq)

-- ---- members, one by one

dns_there : (x : Dns) → unless_null (dns_data x) ≡ Some (dns_data x)
unfolding dns_data
dns_there x = refl

node_there : (x : NodeRow) → unless_null (node_data x) ≡ Some (node_data x)
unfolding node_data
node_there x = refl

words_given : (o : Option (List ℕ)) → if_there words_at (option_and_then unless_null (option_map string o)) ≡ Ok o
words_given o = options_back words_at string (λ s. ⊤) (λ s h. refl) (λ s. refl) o (always o)

domain_back : (r : Response) → if_given (codes "Domain") words_at (response_data r) ≡ Ok r.domain
unfolding response_data peer_members changed_members
domain_back r = ap (if_there words_at) (member_found (codes "Domain") (response_list r) refl) ∙ words_given r.domain

handle_back : (r : Response) → if_given (codes "MapSessionHandle") words_at (response_data r) ≡ Ok r.handle
unfolding response_data peer_members changed_members
handle_back r = ap (if_there words_at) (member_found (codes "MapSessionHandle") (response_list r) refl) ∙ words_given r.handle

settings_back : (r : Response) → IsWritten r → if_given (codes "DNSConfig") dns_settings_at (response_data r) ≡ Ok r.dns
unfolding response_data peer_members changed_members
settings_back r h = ap (if_there dns_settings_at) (member_found (codes "DNSConfig") (response_list r) refl) ∙ options_back dns_settings_at dns_data IsWrittenDns dns_back dns_there r.dns (dns_written r h)

node_back : (r : Response) → IfSome r.node IsNode → if_given (codes "Node") node_at (response_data r) ≡ Ok r.node
unfolding response_data peer_members changed_members
node_back r h = ap (if_there node_at) (member_found (codes "Node") (response_list r) refl) ∙ options_back node_at node_data IsNode nodes_back node_there r.node h

filter_back : (r : Response) → IfSome r.filter (AllByRecursion IsRule) → if_given (codes "PacketFilter") (all_read filter_rule_at) (response_data r) ≡ Ok r.filter
unfolding response_data peer_members changed_members
filter_back r h =
    ap (if_there (all_read filter_rule_at)) (member_found (codes "PacketFilter") (response_list r) refl)
    ∙ options_back (all_read filter_rule_at) (array_data rule_data) (AllByRecursion IsRule) (arrays_back filter_rule_at rule_data IsRule rules_back) (λ rs. refl) r.filter h

peers_back : (r : Response) → AllByRecursion IsNode r.peers → all_given (codes "Peers") node_at (response_data r) ≡ Ok r.peers
unfolding response_data peer_members changed_members
peers_back r h = ap (all_there node_at) (member_found (codes "Peers") (response_list r) refl) ∙ lists_back node_at node_data IsNode nodes_back r.peers h

changed_back : (r : Response) → AllByRecursion IsNode r.changed → all_given (codes "PeersChanged") node_at (response_data r) ≡ Ok r.changed
unfolding response_data peer_members changed_members
changed_back r h = ap (all_there node_at) (member_found (codes "PeersChanged") (response_list r) refl) ∙ lists_back node_at node_data IsNode nodes_back r.changed h

patches_given : (r : Response) → AllByRecursion IsPatch r.patches → all_given (codes "PeersChangedPatch") peer_change_at (response_data r) ≡ Ok r.patches
unfolding response_data peer_members changed_members
patches_given r h = ap (all_there peer_change_at) (member_found (codes "PeersChangedPatch") (response_list r) refl) ∙ lists_back peer_change_at patch_data IsPatch patches_back r.patches h

removed_back : (r : Response) → AllByRecursion IsId r.removed → all_given (codes "PeersRemoved") id_at (response_data r) ≡ Ok r.removed
unfolding response_data peer_members changed_members
removed_back r h = ap (all_there id_at) (member_found (codes "PeersRemoved") (response_list r) refl) ∙ lists_back id_at number_data IsId ids_back r.removed h

-- a number from 1 of 64 bits
abbrev IsSeq : ℕ → Type 0
IsSeq n = (0 < n) × FitsWord n

seq_back : (r : Response) → IfSome r.seq IsSeq → if_given (codes "Seq") seq_at (response_data r) ≡ Ok r.seq
unfolding response_data peer_members changed_members
seq_back r h = ap (if_there seq_at) (member_found (codes "Seq") (response_list r) refl) ∙ options_back seq_at number_data IsSeq (λ n k. seqs_back n k.0 k.1) (λ n. refl) r.seq h

profiles_given : (r : Response) → AllByRecursion IsSizedProfile r.profiles → all_given (codes "UserProfiles") profile_at (response_data r) ≡ Ok r.profiles
unfolding response_data peer_members changed_members
profiles_given r h = ap (all_there profile_at) (member_found (codes "UserProfiles") (response_list r) refl) ∙ lists_back profile_at profile_data IsSizedProfile profiles_back r.profiles h

-- ---- the whole

rules_all : (rs : List FilterRule) → AllByRecursion IsTypedRule rs → AllByRecursion IsSizedRule rs → AllByRecursion DoProtosRise rs → AllByRecursion IsRule rs
rules_all [] h k l = tt
rules_all (r ∷ rs) h k l = ((h.0, k.0, l.0), rules_all rs h.1 k.1 l.1)

filter_all : (o : Option (List FilterRule)) → IfSome o (AllByRecursion IsTypedRule) → IfSome o (AllByRecursion IsSizedRule) → IfSome o (AllByRecursion DoProtosRise) → IfSome o (AllByRecursion IsRule)
filter_all None h k l = tt
filter_all (Some rs) h k l = rules_all rs h k l

value_back : (r : Response) → IsWritten r → IsSizedResponse r → IsNumbered r → response_at (response_data r) ≡ Ok r
value_back r h k l =
    response_from (response_data r) r (settings_back r h) (domain_back r) (handle_back r) (node_back r (both IsWrittenNode IsSizedNode r.node (node_written r h) k.node)) (filter_back r (filter_all r.filter h.typed.filter k.filter l.filter))
    (peers_back r (each_both IsWrittenNode IsSizedNode r.peers (peers_written r h) k.peers)) (changed_back r (each_both IsWrittenNode IsSizedNode r.changed (changed_written r h) k.changed))
    (patches_given r (each_both IsTypedPatch IsSizedPatch r.patches h.typed.patches k.patches)) (removed_back r k.removed) (seq_back r (both (λ n. 0 < n) FitsWord r.seq l.seq h.typed.seq)) (profiles_given r k.profiles)

-- what is written of it is read again
response_reads : (r : Response) → IsWritten r → Reads (response_data r)
unfolding response_data peer_members changed_members
response_reads r h =
    optional_read (response_list r) refl (
      options_read dns_data IsWrittenDns dns_read r.dns (dns_written r h),
      (
        options_read string (λ s. ⊤) (λ s p. refl) r.domain (always r.domain),
        (
          options_read string (λ s. ⊤) (λ s p. refl) r.handle (always r.handle),
          (
            options_read node_data IsTypedNode nodes_read r.node h.typed.node,
            (
              options_read (array_data rule_data) (AllByRecursion IsTypedRule) (arrays_read rule_data IsTypedRule rules_read) r.filter h.typed.filter,
              (
                lists_read node_data IsTypedNode nodes_read r.peers h.typed.peers,
                (
                  lists_read node_data IsTypedNode nodes_read r.changed h.typed.changed,
                  (
                    lists_read patch_data IsTypedPatch patches_read r.patches h.typed.patches,
                    (
                      lists_read number_data FitsWord number_reads r.removed h.typed.removed,
                      (
                        options_read number_data FitsWord number_reads r.seq h.typed.seq,
                        (lists_read profile_data IsTypedProfile profiles_read r.profiles h.typed.profiles, tt),
                      ),
                    ),
                  ),
                ),
              ),
            ),
          ),
        ),
      ),
    )

response_object : (r : Response) → object_at (Some (response_data r)) ≡ Ok (response_data r)
unfolding object_at response_data
response_object r = refl

pub a_response_is_read_back : (r : Response) → IsWritten r → IsSizedResponse r → IsNumbered r → IsUtf8 (response_text r) → response_of_body (response_text r) ≡ Some r
a_response_is_read_back r h k l text =
    let body = body_some (response_text r) (response_data r) text (text_read deep (response_data r) (omega arith) (response_grows r h) (response_reads r h)) in
    ap (λ o. option_and_then (λ d. result_ok (response_at d)) (result_ok (object_at o))) body
    ∙ ap (λ o. option_and_then (λ d. result_ok (response_at d)) (result_ok o)) (response_object r)
    ∙ ap result_ok (value_back r h k l)
