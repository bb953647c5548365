use Rattle.std.proofs.Common.{◌≡◌, map, []}
use Rattle.serde_json.specs.View.{members_view}
use Rattle.policy_doc.specs.Keys.{keys_of}
use Rattle.policy_doc.proofs.keys.check_keys.Given as goal

-- what is left to check decides
abbrev pub invariant-loop-key : goal.invariant-loop-key
invariant-loop-key l =
    let known = map (λ b. b.now) l.known in
    let unsupported = map (λ b. b.now) l.unsupported in
    keys_of l.place known unsupported (map (λ b. b.now) l.seen.items) (members_view l.key-iterator) ≡ keys_of l.place known unsupported [] (members_view l.members.entries)
