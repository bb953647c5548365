-- The first rule of the tables that is broken. Rows are read kind by kind, those of one kind in order;
-- each is tested beside the rows of its kind that stand before it.
use Rattle.std.specs.Prelude.{ℕ, Bool, true, List, [], ◌∷◌, ◌++◌, Option, Some, None, length, codes, if◌then◌else◌, nat_le, nat_lt, nat_eq, ◌&&◌, ◌||◌, ◌==◌, not}
use Rattle.std.specs.List.{list_all, list_any, starts_with}
use Rattle.std.specs.Option.{option_map, option_or, option_map_or}
use Rattle.std.specs.Str.{bytes_eq}
use Rattle.std.specs.Bool.{beq}
use Rattle.std.specs.Fmt.{decimal}
use Rattle.net_addr.specs.Bits.{Address}
use Rattle.tailcfg.specs.declared.limits.TheConstants.{ENDPOINT_LIMIT, ROUTE_LIMIT, ASKED_TAG_LIMIT, HOST_LIMIT}
use Rattle.net_rows.specs.declared.limits.TheConstants.{COUNTER_LIMIT, USER_LIMIT, KEY_LIMIT, PENDING_LIMIT, MACHINE_LIMIT, EXTRA_LIMIT, TAG_LIMIT}
use Rattle.tail_base.specs.declared.limits.TheConstants.{POLICY_LIMIT}
use Rattle.net_addr.specs.Tailnet.{tailnet_v4, tailnet_v6}
use Rattle.net_addr.specs.Blocks.{holds}
use Rattle.net_rows.specs.Rows.{Rows}
use Rattle.net_rows.specs.declared.user.User.{User}
use Rattle.net_rows.specs.declared.key.AuthKey.{AuthKey}
use Rattle.net_rows.specs.declared.pending.Pending.{Pending}
use Rattle.net_rows.specs.declared.machine.Machine.{Machine}
use Rattle.net_rows.specs.declared.change.Counters.{Counters}
use Rattle.net_rows.specs.declared.change.Damage.{Damage}
use Rattle.net_rows.specs.declared.change.Kind.{Kind}
use Rattle.net_rows.specs.declared.change.Kind.TheVariants as kind

-- a counter may have this value
abbrev pub is_counter : ℕ → Bool
is_counter n = nat_le 1 n && nat_le n COUNTER_LIMIT

-- all counters may
abbrev pub are_counters : Counters → Bool
are_counters next = is_counter next.user && is_counter next.key && is_counter next.pending && is_counter next.machine

-- The id is at least 1, below the counter and above the ids before, and there is room.
abbrev pub stands : {T : Type 0} → (T → ℕ) → ℕ → ℕ → List T → T → Bool
stands id next limit before x =
    nat_le 1 (id x) && nat_lt (id x) next && list_all (λ y. nat_lt (id y) (id x)) before && nat_lt (length before) limit

-- no row before has this text or key
abbrev pub is_new : {T : Type 0} → (T → List ℕ) → List T → T → Bool
is_new text before x = list_all (λ y. not (bytes_eq (text y) (text x))) before

-- they are one address
abbrev pub address_eq : Address → Address → Bool
address_eq a b = beq a.v6 b.v6 && a.bits == b.bits

-- no row before has this address
abbrev pub is_new_address : {T : Type 0} → (T → Address) → List T → T → Bool
is_new_address address before x = list_all (λ y. not (address_eq (address y) (address x))) before

-- a user has this id
abbrev pub has_user : List User → ℕ → Bool
has_user users id = list_any (λ u. u.id == id) users

-- the text begins with the head, the id in decimal digits and a hyphen
abbrev pub names_id : List ℕ → ℕ → List ℕ → Bool
names_id head id text = starts_with nat_eq text (head ++ decimal id ++ codes "-")

-- A key's text that begins as a key that was made here has its own id.
abbrev pub names_key : ℕ → List ℕ → Bool
names_key id text = not (starts_with nat_eq text (codes "tnkey-")) || names_id (codes "tnkey-") id text

-- A user has a place and a login of its own.
abbrev pub user_fits : Rows → List User → User → Bool
user_fits t before u = stands (λ r. r.id) t.next.user USER_LIMIT before u && is_new (λ r. r.login) before u

-- A key has a place, a text of its own and a user, and its text and tags keep their rules.
abbrev pub key_fits : Rows → List AuthKey → AuthKey → Bool
key_fits t before k =
    stands (λ r. r.id) t.next.key KEY_LIMIT before k && is_new (λ r. r.text) before k
    && has_user t.users k.user && names_key k.id k.text && nat_le (length k.tags) ASKED_TAG_LIMIT

-- the lists of a pending entry keep their limits
abbrev pub is_short_pending : Pending → Bool
is_short_pending p =
    nat_le (length p.host) HOST_LIMIT && nat_le (length p.routes) ROUTE_LIMIT && nat_le (length p.tags) ASKED_TAG_LIMIT

-- A pending entry has a place, a text and a machine key of its own, and its text and lists keep their rules.
abbrev pub pending_fits : Rows → List Pending → Pending → Bool
pending_fits t before p =
    stands (λ r. r.id) t.next.pending PENDING_LIMIT before p && is_new (λ r. r.text) before p
    && is_new (λ r. r.machine.0) before p && names_id (codes "reg-") p.id p.text && is_short_pending p

-- the lists of a machine keep their limits
abbrev pub is_short_machine : Machine → Bool
is_short_machine m =
    nat_le (length m.host) HOST_LIMIT && nat_le (length m.endpoints) ENDPOINT_LIMIT && nat_le (length m.routes) ROUTE_LIMIT
    && nat_le (length m.approved) ROUTE_LIMIT && nat_le (length m.tags) TAG_LIMIT

-- no machine before has its keys, name or addresses
abbrev pub is_new_machine : List Machine → Machine → Bool
is_new_machine before m =
    is_new (λ r. r.machine.0) before m && is_new (λ r. r.node.0) before m && is_new (λ r. r.name) before m
    && is_new_address (λ r. r.v4) before m && is_new_address (λ r. r.v6) before m

-- A machine has a place, keys, a name and addresses of its own, a user, addresses of the tailnet, and short lists.
abbrev pub machine_fits : Rows → List Machine → Machine → Bool
machine_fits t before m =
    stands (λ r. r.id) t.next.machine MACHINE_LIMIT before m && is_new_machine before m && has_user t.users m.user
    && holds tailnet_v4 m.v4 && holds tailnet_v6 m.v6 && is_short_machine m

-- the id of the first row that doesn't fit beside the rows before it
abbrev pub first_misfit : {T : Type 0} → (T → ℕ) → (List T → T → Bool) → List T → List T → Option ℕ
first_misfit id fits before [] = None
first_misfit id fits before (x ∷ xs) =
    if fits before x then first_misfit id fits (before ++ x ∷ []) xs else Some (id x)

-- damage of a row of this kind
abbrev pub damage_at : Kind → Option ℕ → Option Damage
damage_at k found = option_map (λ n. record { kind = k; id = n }) found

-- damage of what has no id, unless the test passes
abbrev pub damage_unless : Kind → Bool → Option Damage
damage_unless k passes = if passes then None else Some (record { kind = k; id = 0 })

-- the extra records are within their limit
abbrev pub are_short_extras : Rows → Bool
are_short_extras t = nat_le (length t.extras) EXTRA_LIMIT

-- the policy text is within its limit
abbrev pub is_short_policy : Rows → Bool
is_short_policy t = option_map_or (λ text. nat_le (length text) POLICY_LIMIT) t.policy true

-- the first user that doesn't fit
abbrev pub user_damage : Rows → Option Damage
user_damage t = damage_at kind.User (first_misfit (λ r. r.id) (user_fits t) [] t.users)

-- the first key that doesn't fit
abbrev pub key_damage : Rows → Option Damage
key_damage t = damage_at kind.Key (first_misfit (λ r. r.id) (key_fits t) [] t.keys)

-- the first pending entry that doesn't fit
abbrev pub pending_damage : Rows → Option Damage
pending_damage t = damage_at kind.Pending (first_misfit (λ r. r.id) (pending_fits t) [] t.pending)

-- the first machine that doesn't fit
abbrev pub machine_damage : Rows → Option Damage
machine_damage t = damage_at kind.Machine (first_misfit (λ r. r.id) (machine_fits t) [] t.machines)

-- The first damage, in the order in which tables are read; None where all rules are kept.
unfoldable pub damage : Rows → Option Damage
damage t =
    option_or (damage_unless kind.Meta (are_counters t.next))
    (option_or (user_damage t)
    (option_or (key_damage t)
    (option_or (pending_damage t)
    (option_or (machine_damage t)
    (option_or (damage_unless kind.Extras (are_short_extras t))
    (damage_unless kind.Policy (is_short_policy t)))))))
