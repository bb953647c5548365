-- What is known of a selector that was read.
use Rattle.std.proofs.Common.{◌≡◌, ℕ, Bool, true, false, ◌||◌, List, [], ◌∷◌, Option, Some, None, Result, Ok, Err, cond, refl, ap, ◌∙◌}
use Rattle.std.specs.Prelude.{codes, is_some, not}
use Rattle.std.specs.List.{find}
use Rattle.std.specs.Str.{bytes_eq}
use Rattle.std.proofs.lemmas.Bool.{and_parts}
use Rattle.tail_base.proofs.Bools.{bytes_eq-true}
use Rattle.tail_base.specs.Logins.{login_of}
use Rattle.net_addr.specs.Bits.{Block}
use Rattle.policy_rows.specs.declared.code.PolicyCode.TheVariants as code
use Rattle.policy_rows.specs.declared.fault.PolicyFault.{PolicyFault}
use Rattle.policy_rows.specs.declared.group.Group.{Group}
use Rattle.policy_rows.specs.declared.names.Names.{Names}
use Rattle.policy_rows.specs.declared.selector.Selector.{Selector}
use Rattle.policy_rows.specs.declared.selector.Selector.TheVariants as sel
use Rattle.policy_rows.specs.declared.tag_owner.TagOwner.{TagOwner}
use Rattle.policy_rows.specs.Faults.{fault_at}
use Rattle.policy_rows.specs.Names.{begins, group_named, host_named, is_name, owner_of_tag}
use Rattle.policy_rows.specs.Nets.{is_one_address, net_of_text}
use Rattle.policy_rows.specs.Selectors.{approver_at, automatic_at, group_at, has_slash, host_at, is_approver, is_source, is_test_end, net_or, selector_at, source_at, tag_at, test_end_at, user_or}
use Rattle.policy_doc.specs.Sound.{has_entry, is_subject}
use Rattle.tail_base.proofs.StepLemmas.{bind_parts, check_parts, due_parts}

-- what a search finds passes its test, and the search for it again ends at one
pub found_passes : {A : Type 0} (test : A → Bool) (xs : List A) (x : A) → find test xs ≡ Some x → test x ≡ true
found_passes test [] x h = absurd (cc)
found_passes test (y ∷ ys) x h = by_test (λ e. found_passes test ys x e) (test y) refl h
  where
    by_test : (find test ys ≡ Some x → test x ≡ true) → (t : Bool) → test y ≡ t → cond t (Some y) (find test ys) ≡ Some x → test x ≡ true
    by_test more true p e = let same : y ≡ x = cc in rw (← same) p
    by_test more false p e = more e

group_again : (groups : List Group) (name : List ℕ) (group : Group) → group_named groups name ≡ Some group → is_some (group_named groups group.name) ≡ true
group_again groups name group h =
    let same : group.name ≡ name = bytes_eq-true group.name name (found_passes (λ g. bytes_eq g.name name) groups group h) in
    ap (λ n. is_some (group_named groups n)) same ∙ ap is_some h

tag_again : (tags : List TagOwner) (tag : List ℕ) (owner : TagOwner) → owner_of_tag tags tag ≡ Some owner → is_some (owner_of_tag tags owner.tag) ≡ true
tag_again tags tag owner h =
    let same : owner.tag ≡ tag = bytes_eq-true owner.tag tag (found_passes (λ t. bytes_eq t.tag tag) tags owner h) in
    ap (λ n. is_some (owner_of_tag tags n)) same ∙ ap is_some h

-- the selector was read and is known
abbrev IsKnown : Names → Result Selector PolicyFault → Type 0
IsKnown names r = (s : Selector) → r ≡ Ok s → has_entry names.groups names.tags s ≡ true

one_known : (names : Names) (x : Selector) → has_entry names.groups names.tags x ≡ true → IsKnown names (Ok x)
one_known names x h s e = let same : x ≡ s = cc in rw (← same) h

none_known : (names : Names) (f : PolicyFault) → IsKnown names (Err f)
none_known names f s e = absurd (cc)

either_known : (names : Names) (b : Bool) (x y : Result Selector PolicyFault) → IsKnown names x → IsKnown names y → IsKnown names (cond b x y)
either_known names true x y hx hy = hx
either_known names false x y hx hy = hy

group_known : (names : Names) (place text : List ℕ) → IsKnown names (group_at names place text)
group_known names place text s e =
    let parts = due_parts (fault_at code.UnknownGroup place) (group_named names.groups text) _ s e in
    one_known names (sel.Group parts.0.name) (group_again names.groups text parts.0 parts.1) s parts.2

tag_known : (names : Names) (place text : List ℕ) → IsKnown names (tag_at names place text)
tag_known names place text s e =
    let parts = due_parts (fault_at code.UnknownTag place) (owner_of_tag names.tags text) _ s e in
    one_known names (sel.Tagged parts.0.tag) (tag_again names.tags text parts.0 parts.1) s parts.2

host_known : (names : Names) (place text : List ℕ) → IsKnown names (host_at names place text)
host_known names place text s e =
    let named = check_parts (is_name text) (fault_at code.BadSelector place) _ s e in
    let parts = due_parts (fault_at code.UnknownHost place) (host_named names.hosts text) _ s named.1 in
    one_known names (sel.Net parts.0.prefix) refl s parts.2

automatic_known : (names : Names) (place text : List ℕ) → IsKnown names (automatic_at place text)
automatic_known names place text =
    either_known names (bytes_eq text (codes "autogroup:member")) _ _ (one_known names sel.Member refl)
    (either_known names (bytes_eq text (codes "autogroup:tagged")) _ _ (one_known names sel.AllTagged refl)
    (either_known names (bytes_eq text (codes "autogroup:internet")) _ _ (one_known names sel.Internet refl)
    (either_known names (bytes_eq text (codes "autogroup:self")) _ _ (one_known names sel.OwnDevices refl) (none_known names (fault_at code.Unsupported place)))))

net_known : (names : Names) (net : Option Block) (other : Result Selector PolicyFault) → IsKnown names other → IsKnown names (net_or net other)
net_known names None other h = h
net_known names (Some net) other h = one_known names (sel.Net net) refl

user_known : (names : Names) (login : Option (List ℕ)) (other : Result Selector PolicyFault) → IsKnown names other → IsKnown names (user_or login other)
user_known names None other h = h
user_known names (Some login) other h = one_known names (sel.User login) refl

pub selector_known : (names : Names) (place text : List ℕ) → IsKnown names (selector_at names place text)
unfolding selector_at
selector_known names place text =
    either_known names (bytes_eq text (codes "*")) _ _ (one_known names sel.All refl)
    (either_known names (begins text (codes "group:")) _ _ (group_known names place text)
    (either_known names (begins text (codes "tag:")) _ _ (tag_known names place text)
    (either_known names (begins text (codes "autogroup:")) _ _ (automatic_known names place text)
    (either_known names (begins text (codes "ipset:") || begins text (codes "svc:")) _ _ (none_known names (fault_at code.Unsupported place))
    (user_known names (login_of text) _ (net_known names (net_of_text text) _ (host_known names place text)))))))

-- a selector of a kind that may stand there
abbrev pub IsRead : Names → (Selector → Bool) → Selector → Type 0
IsRead names kind s = (has_entry names.groups names.tags s ≡ true) × (kind s ≡ true)

pub source_read : (names : Names) (place text : List ℕ) (s : Selector) → source_at names place text ≡ Ok s → IsRead names is_source s
unfolding source_at
source_read names place text s e =
    let parts = bind_parts (selector_at names place text) _ s e in
    let kind = check_parts (is_source parts.0) (fault_at code.NotASource place) _ s parts.2 in
    let same : parts.0 ≡ s = cc (kind.1) in
    rw (← same) (selector_known names place text parts.0 parts.1, kind.0)

pub approver_read : (names : Names) (place text : List ℕ) (s : Selector) → approver_at names place text ≡ Ok s → IsRead names is_approver s
unfolding approver_at
approver_read names place text s e =
    let parts = bind_parts (selector_at names place text) _ s e in
    let kind = check_parts (is_approver parts.0) (fault_at code.BadSelector place) _ s parts.2 in
    let same : parts.0 ≡ s = cc (kind.1) in
    rw (← same) (selector_known names place text parts.0 parts.1, kind.0)

subject_kind : (text : List ℕ) (s : Selector) → is_test_end text s ≡ true → is_subject s ≡ true
subject_kind text sel.All h = absurd (cc)
subject_kind text (sel.Net net) h = (and_parts (is_one_address net) (not (has_slash text)) h).0
subject_kind text (sel.User login) h = refl
subject_kind text (sel.Group name) h = refl
subject_kind text (sel.Tagged tag) h = refl
subject_kind text sel.Member h = absurd (cc)
subject_kind text sel.AllTagged h = absurd (cc)
subject_kind text sel.Internet h = absurd (cc)
subject_kind text sel.OwnDevices h = absurd (cc)

pub subject_read : (names : Names) (place text : List ℕ) (s : Selector) → test_end_at names place text ≡ Ok s → IsRead names is_subject s
unfolding test_end_at
subject_read names place text s e =
    let parts = bind_parts (selector_at names place text) _ s e in
    let kind = check_parts (is_test_end text parts.0) (fault_at code.BadTest place) _ s parts.2 in
    let same : parts.0 ≡ s = cc (kind.1) in
    rw (← same) (selector_known names place text parts.0 parts.1, subject_kind text parts.0 kind.0)
