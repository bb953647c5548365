-- How texts were read when `grants` was a key that isn't supported, and that a text without the key
-- reads so still.
use Rattle.std.proofs.Common.{◌≡◌, ℕ, Bool, true, false, ◌&&◌, ◌||◌, List, [], ◌∷◌, ◌++◌, Option, Some, None, Result, Ok, Err, cond, length, leb, refl, sym, ap, ◌∙◌}
use Rattle.std.specs.Prelude.{codes, not}
use Rattle.std.specs.Str.{bytes_eq, str_eq_ignore_ascii_case, str_to_ascii_lowercase}
use Rattle.std.proofs.lemmas.Bool.{and_parts}
use Rattle.std.proofs.lemmas.Slice.Eq.{bytes_eq-Decides}
use Rattle.serde_json.specs.Data.{Data, Members, no_members, member}
use Rattle.serde_json.specs.Find.{as_object}
use Rattle.tail_base.specs.Steps.{◌>>=◌, or_fault, refuse_unless}
use Rattle.tail_base.proofs.Bools.{same_tests}
use Rattle.policy_rows.specs.declared.code.PolicyCode.TheVariants as code
use Rattle.policy_rows.specs.declared.fault.PolicyFault.{PolicyFault}
use Rattle.policy_rows.specs.declared.names.Names.{Names}
use Rattle.policy_rows.specs.declared.policy.Policy.{Policy}
use Rattle.policy_rows.specs.declared.rule.Rule.{Rule}
use Rattle.policy_rows.specs.Faults.{fault_at, under}
use Rattle.policy_doc.specs.declared.limits.TheConstants.{RULE_LIMIT}
use Rattle.tail_base.specs.declared.limits.TheConstants.{POLICY_LIMIT}
use Rattle.policy_doc.specs.Document.{approvers_or_none, json_at, names_of, policy_from, policy_of, policy_of_text, rules_section, standard_at, tests_section, top_keys_of, unsupported_keys}
use Rattle.policy_doc.specs.Keys.{is_one_of, keys_of, lacks_key, newer, section}
use Rattle.policy_doc.specs.Rules.{rule_at}
use Rattle.policy_doc.specs.Walks.{list_of, optional}

-- ---- the former definition

abbrev early_keys : List (List ℕ)
early_keys = codes "groups" ∷ codes "hosts" ∷ codes "tagOwners" ∷ codes "acls" ∷ []

abbrev late_keys : List (List ℕ)
late_keys =
    codes "autoApprovers" ∷ codes "tests"
    ∷ codes "ssh" ∷ codes "sshTests" ∷ codes "nodeAttrs" ∷ codes "derpMap" ∷ codes "randomizeClientPort" ∷ codes "OneCGNATRoute" ∷ codes "disableIPv4" ∷ []

abbrev former_keys_of : Members → Result (Unit {0}) PolicyFault
former_keys_of ms = keys_of [] (early_keys ++ late_keys) (codes "grants" ∷ unsupported_keys) [] ms

abbrev former_rules : Names → Option Data → Result (Option (List Rule)) PolicyFault
former_rules names d = optional (list_of RULE_LIMIT (rule_at names) (codes "acls")) d

unfoldable pub former_policy_of : Data → Result Policy PolicyFault
former_policy_of d = do
  ms ← or_fault (fault_at code.NotObject (codes "top")) (as_object d)
  _ ← former_keys_of ms
  names ← names_of ms
  rules ← former_rules names (section (codes "acls") ms)
  approvers ← approvers_or_none names (section (codes "autoApprovers") ms)
  tests ← tests_section names (section (codes "tests") ms)
  Ok (policy_from names rules approvers tests)

unfoldable pub former_policy_of_text : List ℕ → Result Policy PolicyFault
former_policy_of_text text = do
  _ ← refuse_unless (leb (length text) POLICY_LIMIT) (fault_at code.TooMany (codes "text"))
  standard ← standard_at text
  d ← json_at standard
  former_policy_of d

-- ---- keys

isnt : (b : Bool) → not b ≡ true → b ≡ false
isnt true h = absurd (cc)
isnt false h = refl

one_of_inserted : (key name : List ℕ) (front back : List (List ℕ)) → str_eq_ignore_ascii_case name key ≡ false → is_one_of key (front ++ name ∷ back) ≡ is_one_of key (front ++ back)
one_of_inserted key name [] back h = ap (λ b. b || is_one_of key back) h
one_of_inserted key name (other ∷ front) back h = ap (λ b. str_eq_ignore_ascii_case other key || b) (one_of_inserted key name front back h)

-- what a key's checks decide
abbrev checks : List ℕ → List ℕ → Bool → Bool → Bool → Result (Unit {0}) PolicyFault → Result (Unit {0}) PolicyFault
checks place key unsupported known fresh more =
    refuse_unless (not unsupported) (fault_at code.Unsupported (under place key)) >>= λ _. refuse_unless (known && fresh) (fault_at code.UnknownKey (under place key)) >>= λ _. more

pub keys_without : (place name : List ℕ) (front back unsupported seen : List (List ℕ)) (ms : Members) → lacks_key name ms ≡ true
    → keys_of place (front ++ name ∷ back) unsupported seen ms ≡ keys_of place (front ++ back) (name ∷ unsupported) seen ms
keys_without place name front back unsupported seen no_members h = refl
keys_without place name front back unsupported seen (member key d ms) h =
    let parts = and_parts (not (str_eq_ignore_ascii_case name key)) (lacks_key name ms) h in
    let other = isnt (str_eq_ignore_ascii_case name key) parts.0 in
    let fresh = not (is_one_of (newer key) seen) in
    let more = keys_without place name front back unsupported (seen ++ newer key ∷ []) ms parts.1 in
    ap (λ known. checks place key (is_one_of key unsupported) known fresh (keys_of place (front ++ name ∷ back) unsupported (seen ++ newer key ∷ []) ms)) (one_of_inserted key name front back other)
    ∙ ap (λ b. checks place key b (is_one_of key (front ++ back)) fresh (keys_of place (front ++ name ∷ back) unsupported (seen ++ newer key ∷ []) ms)) (sym (one_of_inserted key name [] unsupported other))
    ∙ ap (λ rest. checks place key (is_one_of key (name ∷ unsupported)) (is_one_of key (front ++ back)) fresh rest) more

top_keys_without : (ms : Members) → lacks_key (codes "grants") ms ≡ true → top_keys_of ms ≡ keys_of [] (early_keys ++ late_keys) (codes "grants" ∷ unsupported_keys) [] ms
top_keys_without ms h = keys_without [] (codes "grants") early_keys late_keys unsupported_keys [] ms h

-- ---- sections

case_swap : (a b : List ℕ) → str_eq_ignore_ascii_case a b ≡ str_eq_ignore_ascii_case b a
case_swap a b =
    let x = str_to_ascii_lowercase a in
    let y = str_to_ascii_lowercase b in
    same_tests (bytes_eq x y) (bytes_eq y x) (λ h. (bytes_eq-Decides y x).1 (sym ((bytes_eq-Decides x y).0 h))) (λ h. (bytes_eq-Decides x y).1 (sym ((bytes_eq-Decides y x).0 h)))

newer_isnt : (users ports : Bool) (key : List ℕ) → str_eq_ignore_ascii_case key (codes "grants") ≡ false
    → str_eq_ignore_ascii_case (cond users (codes "src") (cond ports (codes "dst") key)) (codes "grants") ≡ false
newer_isnt true ports key h = refl
newer_isnt false true key h = refl
newer_isnt false false key h = h

pub section_without : (ms : Members) → lacks_key (codes "grants") ms ≡ true → section (codes "grants") ms ≡ None
section_without no_members h = refl
section_without (member key d ms) h =
    let parts = and_parts (not (str_eq_ignore_ascii_case (codes "grants") key)) (lacks_key (codes "grants") ms) h in
    let other = case_swap key (codes "grants") ∙ isnt (str_eq_ignore_ascii_case (codes "grants") key) parts.0 in
    let named = newer_isnt (str_eq_ignore_ascii_case key (codes "users")) (str_eq_ignore_ascii_case key (codes "ports")) key other in
    ap (λ b. cond b (Some d) (section (codes "grants") ms)) named ∙ section_without ms parts.1

pub rules_without : (names : Names) (acls : Option Data) → rules_section names acls None ≡ optional (list_of RULE_LIMIT (rule_at names) (codes "acls")) acls
rules_without names None = refl
rules_without names (Some d) = again (list_of RULE_LIMIT (rule_at names) (codes "acls") d)
  where
    again : (r : Result (List Rule) PolicyFault) → (r >>= λ before. (Ok before >>= λ rules. Ok (Some rules))) ≡ (r >>= λ rules. Ok (Some rules))
    again (Ok rules) = refl
    again (Err fault) = refl

-- ---- texts

bind_same : {A B : Type 0} (r : Result A PolicyFault) (f g : A → Result B PolicyFault) → ((x : A) → r ≡ Ok x → f x ≡ g x) → (r >>= f) ≡ (r >>= g)
bind_same (Ok x) f g h = h x refl
bind_same (Err e) f g h = refl

-- what is read behind the rules
abbrev behind_rules : Members → Names → Option (List Rule) → Result Policy PolicyFault
behind_rules ms names rules =
    approvers_or_none names (section (codes "autoApprovers") ms) >>= λ approvers. tests_section names (section (codes "tests") ms) >>= λ tests. Ok (policy_from names rules approvers tests)

members_same : (ms : Members) → lacks_key (codes "grants") ms ≡ true
    → (top_keys_of ms >>= λ _. names_of ms >>= λ names. rules_section names (section (codes "acls") ms) (section (codes "grants") ms) >>= behind_rules ms names)
    ≡ (former_keys_of ms >>= λ _. names_of ms >>= λ names. former_rules names (section (codes "acls") ms) >>= behind_rules ms names)
members_same ms h =
    ap (λ r. r >>= λ _. names_of ms >>= λ names. rules_section names (section (codes "acls") ms) (section (codes "grants") ms) >>= behind_rules ms names) (top_keys_without ms h)
    ∙ bind_same (former_keys_of ms) _ _ (λ _ _. bind_same (names_of ms) _ _ (λ names _.
    ap (λ o. rules_section names (section (codes "acls") ms) o >>= behind_rules ms names) (section_without ms h)
    ∙ ap (λ r. r >>= behind_rules ms names) (rules_without names (section (codes "acls") ms))))

value_same : (d : Data) → ((ms : Members) → as_object d ≡ Some ms → lacks_key (codes "grants") ms ≡ true) → policy_of d ≡ former_policy_of d
unfolding policy_of former_policy_of
value_same d h = bind_same (or_fault (fault_at code.NotObject (codes "top")) (as_object d)) _ _ (λ ms is. members_same ms (h ms (found (as_object d) ms is)))
  where
    found : (o : Option Members) (ms : Members) → or_fault (fault_at code.NotObject (codes "top")) o ≡ Ok ms → o ≡ Some ms
    found None ms e = absurd (cc)
    found (Some other) ms e = cc

-- in the object that the text states, if it states one, no key is `grants`, in any case of its letters
abbrev pub LacksGrants : List ℕ → Type 0
LacksGrants text = (standard : List ℕ) (d : Data) (ms : Members) → standard_at text ≡ Ok standard → json_at standard ≡ Ok d → as_object d ≡ Some ms → lacks_key (codes "grants") ms ≡ true

pub text_same : (text : List ℕ) → LacksGrants text → policy_of_text text ≡ former_policy_of_text text
unfolding policy_of_text former_policy_of_text
text_same text h =
    bind_same (refuse_unless (leb (length text) POLICY_LIMIT) (fault_at code.TooMany (codes "text"))) _ _ (λ _ _.
    bind_same (standard_at text) _ _ (λ standard is. bind_same (json_at standard) _ _ (λ d read. value_same d (λ ms object. h standard d ms is read object))))
