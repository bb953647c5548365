use Rattle.std.proofs.Common.{◌≡◌, []}
use Rattle.serde_json.specs.View.{members_view}
use Rattle.policy_doc.specs.Walks.{each_member}
use Rattle.policy_doc.proofs.walk.each_member.Given as goal

-- what is read so far, before what is left to read
abbrev pub invariant-loop-key : goal.invariant-loop-key
invariant-loop-key g l =
    let reads = g.M.ReadMember.reads l.names in
    each_member reads l.place l.out (members_view l.key-iterator) ≡ each_member reads l.place [] (members_view l.members.entries)
