-- No number that operators are shown is a float.
use Rattle.std.proofs.Common.{◌≡◌, List, false, refl}
use Rattle.serde_json.specs.Data.{string}
use Rattle.serde_json.specs.Written.{has_float}
use Rattle.tailcfg.specs.declared.dns.DnsExtra.{DnsExtra}
use Rattle.net_rows.specs.declared.pending.Pending.{Pending}
use Rattle.net_rows.specs.declared.user.User.{User}
use Rattle.desk_state.specs.declared.lines.KeyLine.{KeyLine}
use Rattle.desk_state.specs.declared.lines.NodeLine.{NodeLine}
use Rattle.wire_write.specs.Dns.{extra_data}
use Rattle.wire_write.specs.Parts.{array_data, prefix_data, machine_key_data, node_key_data}
use Rattle.wire_write.proofs.Plain.{neither, items_plain, time_plain, prefix_plain}
use Rattle.wire_admin.specs.Keys.{key_data, keys_data}
use Rattle.wire_admin.specs.Nodes.{addr_data, node_data, nodes_data}
use Rattle.wire_admin.specs.Users.{user_data, users_data}
use Rattle.wire_admin.specs.Waiting.{pending_data, waiting_data}

user_plain : (u : User) → has_float (user_data u) ≡ false
unfolding user_data
user_plain u = refl

pub users_plain : (us : List User) → has_float (users_data us) ≡ false
unfolding users_data
users_plain us = neither _ _ (items_plain user_data us user_plain) refl

pub key_plain : (k : KeyLine) → has_float (key_data k) ≡ false
unfolding key_data
key_plain k =
    neither _ _ (time_plain k.row.expiry) (
    neither _ _ (items_plain string k.row.tags (λ _. refl)) refl)

pub keys_plain : (ks : List KeyLine) → has_float (keys_data ks) ≡ false
unfolding keys_data
keys_plain ks = neither _ _ (items_plain key_data ks key_plain) refl

pub node_plain : (l : NodeLine) → has_float (node_data l) ≡ false
unfolding node_data addr_data
node_plain l =
    neither _ _ (items_plain prefix_data l.row.routes prefix_plain) (
    neither _ _ (items_plain prefix_data l.row.approved prefix_plain) (
    neither _ _ (time_plain l.row.expiry) (
    neither _ _ (items_plain prefix_data l.served prefix_plain) (
    neither _ _ (items_plain string l.row.tags (λ _. refl)) refl))))

pub nodes_plain : (ls : List NodeLine) → has_float (nodes_data ls) ≡ false
unfolding nodes_data
nodes_plain ls = neither _ _ (items_plain node_data ls node_plain) refl

pending_plain : (p : Pending) → has_float (pending_data p) ≡ false
unfolding pending_data machine_key_data node_key_data
pending_plain p = refl

pub waiting_plain : (ps : List Pending) → has_float (waiting_data ps) ≡ false
unfolding waiting_data
waiting_plain ps = neither _ _ (items_plain pending_data ps pending_plain) refl

extra_plain : (e : DnsExtra) → has_float (extra_data e) ≡ false
unfolding extra_data
extra_plain e = refl

pub extras_plain : (es : List DnsExtra) → has_float (array_data extra_data es) ≡ false
extras_plain es = items_plain extra_data es extra_plain
