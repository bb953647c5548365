-- What one machine may do by rules, from what each selector covers of it.
use Rattle.std.proofs.Common.{◌≡◌, ℕ, Bool, false, List, [], ◌∷◌, refl, ap, sym, ◌∙◌}
use Rattle.std.specs.Prelude.{Option, Some, map, slice_get}
use Rattle.std.specs.List.{list_any}
use Rattle.std.specs.Option.{option_map, option_map_or}
use Rattle.std.proofs.lemmas.Option.{slice_get-map}
use Rattle.policy_rows.specs.declared.dest.Dest.{Dest}
use Rattle.policy_rows.specs.declared.group.Group.{Group}
use Rattle.policy_rows.specs.declared.rule.Rule.{Rule}
use Rattle.policy_rows.specs.declared.selector.Selector.{Selector}
use Rattle.policy_sites.specs.ByRule.{covers_served, covers_site, sends, takes}
use Rattle.policy_eval.specs.Covering.{flag_at}
use Rattle.policy_eval.specs.Expansion.{AreMatched, IsCoverAt, RuleFits}
use Rattle.policy_eval.specs.declared.cover.Cover.{Cover}
use Rattle.policy_eval.specs.declared.rule_sets.RuleSets.{RuleSets}
use Rattle.policy_sites.specs.declared.site.Site.{Site}
use Rattle.policy_eval.proofs.CoverLemmas.{matched_any}

-- what is tried of each selector
abbrev pub tried_of : (Selector → Bool) → List Cover → List Bool
tried_of test list = map (λ cover. test cover.selector) list

matched_map : {A B C : Type 0} (Fits : A → B → Type 0) (f : A → C) (g : B → C) → ((x : A) (y : B) → Fits x y → f x ≡ g y)
    → (xs : List A) (ys : List B) → AreMatched Fits xs ys → map f xs ≡ map g ys
matched_map Fits f g same [] [] h = refl
matched_map Fits f g same [] (y ∷ ys) h = absurd h
matched_map Fits f g same (x ∷ xs) [] h = absurd h
matched_map Fits f g same (x ∷ xs) (y ∷ ys) h = λ i. same x y h.0 i ∷ matched_map Fits f g same xs ys h.1 i

-- the flag where what the selector covers stands is its own
flag_there : (test : Selector → Bool) (groups : List Group) (sites : List Site) (list : List Cover) (selector : Selector) (place : ℕ) → IsCoverAt groups sites list selector place
    → test selector ≡ flag_at (tried_of test list) place
flag_there test groups sites list selector place at =
    let found : slice_get (tried_of test list) place ≡ Some (test (at.0).selector) = slice_get-map (λ (c : Cover). test c.selector) list place ∙ ap (option_map (λ (c : Cover). test c.selector)) at.1 in
    sym (ap (λ (o : Option Bool). option_map_or (λ b. b) o false) found ∙ ap test at.2.own)

some_there : {A : Type 0} (test : Selector → Bool) (to : A → Selector) (groups : List Group) (sites : List Site) (list : List Cover) (xs : List A) (places : List ℕ)
    → AreMatched (λ x place. IsCoverAt groups sites list (to x) place) xs places → list_any (λ x. test (to x)) xs ≡ list_any (flag_at (tried_of test list)) places
some_there {A} test to groups sites list xs places matched =
    matched_any (λ x place. IsCoverAt groups sites list (to x) place) (λ x. test (to x)) (flag_at (tried_of test list)) (λ x place at. flag_there test groups sites list (to x) place at) xs places matched

pub sends_of_flags : (groups : List Group) (sites : List Site) (list : List Cover) (rules : List Rule) (sets : List RuleSets) (site : Site) → AreMatched (RuleFits groups sites list) rules sets
    → map (λ of_rule. list_any (flag_at (tried_of (covers_site groups site) list)) of_rule.source_places) sets ≡ map (λ r. sends groups r site) rules
sends_of_flags groups sites list rules sets site matched =
    sym (matched_map (RuleFits groups sites list) (λ r. sends groups r site) (λ of_rule. list_any (flag_at (tried_of (covers_site groups site) list)) of_rule.source_places)
    (λ r of_rule fits. some_there (covers_site groups site) (λ (s : Selector). s) groups sites list r.sources of_rule.source_places fits.source_places) rules sets matched)

pub takes_of_flags : (groups : List Group) (sites : List Site) (list : List Cover) (rules : List Rule) (sets : List RuleSets) (site : Site) → AreMatched (RuleFits groups sites list) rules sets
    → map (λ of_rule. list_any (flag_at (tried_of (covers_served groups site) list)) of_rule.dests) sets ≡ map (λ r. takes groups r site) rules
takes_of_flags groups sites list rules sets site matched =
    sym (matched_map (RuleFits groups sites list) (λ r. takes groups r site) (λ of_rule. list_any (flag_at (tried_of (covers_served groups site) list)) of_rule.dests)
    (λ r of_rule fits. some_there (covers_served groups site) (λ (e : Dest). e.to) groups sites list r.dests of_rule.dests fits.dests) rules sets matched)
