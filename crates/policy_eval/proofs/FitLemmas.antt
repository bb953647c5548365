-- What is kept of a rule is its own.
use Rattle.std.proofs.Common.{◌≡◌, ◌<◌, ◌&&◌, ◌||◌, ℕ, Bool, false, List, [], ◌∷◌, ◌++◌, ◌+◌, length, arith, get_or, take, ap, sym, ◌∙◌, subst}
use Rattle.std.specs.Prelude.{Option, slice_index_or}
use Rattle.std.specs.List.{list_any}
use Rattle.std.specs.Option.{option_map_or}
use Rattle.std.proofs.lemmas.Option.{slice_get-get_or}
use Rattle.policy_rows.specs.declared.dest.Dest.{Dest}
use Rattle.policy_rows.specs.declared.group.Group.{Group}
use Rattle.policy_rows.specs.declared.rule.Rule.{Rule}
use Rattle.policy_rows.specs.declared.selector.Selector.{Selector}
use Rattle.policy_sites.specs.ByRule.{lets_through, sends, site_reaches, takes}
use Rattle.policy_eval.specs.Covering.{Covering, IsGrown, flag_at, sets_let}
use Rattle.policy_sites.specs.Covers.{is_own}
use Rattle.policy_sites.specs.Ends.{holder_of}
use Rattle.policy_eval.specs.Expansion.{AreFlags, AreMatched, Expansion, IsCoverAt, IsEntryAt, RuleFits, SetsFit}
use Rattle.policy_eval.specs.declared.cover.Cover.{Cover}
use Rattle.policy_eval.specs.declared.rule_sets.RuleSets.{RuleSets}
use Rattle.policy_sites.specs.declared.site.Site.{Site}
use Rattle.policy_eval.proofs.CoverLemmas.{grown_twice, matched_any, matched_weaker, places_kept}
use Rattle.policy_eval.proofs.MatchLemmas.{matched_at, matched_length, matched_more}

pub rule_kept : (x y : Covering) (r : Rule) (sets : RuleSets) → IsGrown x y → RuleFits x.groups x.sites x.list r sets → RuleFits y.groups y.sites y.list r sets
rule_kept x y r sets grown h =
    let moved : RuleFits y.groups y.sites x.list r sets = subst (λ (gs : List Group). RuleFits gs y.sites x.list r sets) (sym grown.groups)
    (subst (λ (ss : List Site). RuleFits x.groups ss x.list r sets) (sym grown.sites) h) in
    record {
      sources = moved.sources;
      source_places = places_kept (λ (s : Selector). s) x y r.sources sets.source_places grown h.source_places;
      dests = places_kept (λ (e : Dest). e.to) x y r.dests sets.dests grown h.dests;
      sends = moved.sends;
      takes = moved.takes;
      owns = moved.owns;
    }

pub rule_inside : (x : Expansion) (list : List Cover) (sets : List RuleSets) (i : ℕ) → SetsFit x list sets → i < length x.rules → i < length sets
rule_inside x list sets i fit lt = let same = matched_length (RuleFits x.groups x.sites list) x.rules sets fit.matched in omega arith

-- what stands there fits the rule
pub rule_fits : (x : Expansion) (list : List Cover) (sets : List RuleSets) (i : ℕ) (got : RuleSets) → SetsFit x list sets → i < length x.rules → ((d : RuleSets) → got ≡ slice_index_or sets i d)
    → (d : Rule) → RuleFits x.groups x.sites list (slice_index_or x.rules i d) got
rule_fits x list sets i got fit lt is d =
    subst (λ (s : RuleSets). RuleFits x.groups x.sites list (slice_index_or x.rules i d) s) (sym (is got)) (matched_at (RuleFits x.groups x.sites list) x.rules sets fit.matched i d got lt)

pub entry_inside : (x : Expansion) (list : List Cover) (sets : List RuleSets) (i : ℕ) (got : RuleSets) (j : ℕ) (d : Rule) → SetsFit x list sets → i < length x.rules → ((e : RuleSets) → got ≡ slice_index_or sets i e)
    → j < length (slice_index_or x.rules i d).dests → j < length got.dests
entry_inside x list sets i got j d fit lt is inside =
    let fits = rule_fits x list sets i got fit lt is d in
    let same = matched_length (IsEntryAt x.groups x.sites list) (slice_index_or x.rules i d).dests got.dests fits.dests in
    omega arith

-- what the destination covers stands at its place
pub entry_at : (x : Expansion) (list : List Cover) (sets : List RuleSets) (i : ℕ) (got : RuleSets) (j place : ℕ) → SetsFit x list sets → i < length x.rules → ((e : RuleSets) → got ≡ slice_index_or sets i e)
    → place ≡ slice_index_or got.dests j 0 → (d : Rule) (e : Dest) → j < length (slice_index_or x.rules i d).dests
    → IsCoverAt x.groups x.sites list (slice_index_or (slice_index_or x.rules i d).dests j e).to place
entry_at x list sets i got j place fit lt is at d e inside =
    let fits = rule_fits x list sets i got fit lt is d in
    let r = slice_index_or x.rules i d in
    subst (λ (p : ℕ). IsEntryAt x.groups x.sites list (slice_index_or r.dests j e) p) (sym at) (matched_at (IsEntryAt x.groups x.sites list) r.dests got.dests fits.dests j e 0 inside)

-- a flag at a place
pub flag_is : (test : Site → Bool) (sites : List Site) (flags : List Bool) (at : ℕ) (s : Site) → AreFlags test sites flags → at < length sites → test (slice_index_or sites at s) ≡ flag_at flags at
flag_is test sites flags at s h lt =
    sym (ap (λ (o : Option Bool). option_map_or (λ b. b) o false) (h at (slice_index_or sites at s) (slice_get-get_or sites at s lt)))

-- a search of what is known of the rules is one of the rules
pub reach_by_flags : (x : Expansion) (list : List Cover) (sets : List RuleSets) (a b : ℕ) (own : Bool) (s : Site) → SetsFit x list sets → a < length x.sites → b < length x.sites
    → own ≡ is_own (holder_of (slice_index_or x.sites a s)) (holder_of (slice_index_or x.sites b s))
    → list_any (sets_let a b own) sets ≡ site_reaches x.groups x.rules (slice_index_or x.sites a s) (slice_index_or x.sites b s)
reach_by_flags x list sets a b own s fit at to is =
    let p = slice_index_or x.sites a s in
    let q = slice_index_or x.sites b s in
    sym (matched_any (RuleFits x.groups x.sites list) (lets_through x.groups p q) (sets_let a b own)
    (λ r of_rule fits.
    let from : sends x.groups r p ≡ flag_at of_rule.sends a = flag_is (sends x.groups r) x.sites of_rule.sends a s fits.sends at in
    let into : takes x.groups r q ≡ flag_at of_rule.takes b = flag_is (takes x.groups r) x.sites of_rule.takes b s fits.takes to in
    λ i. from i && (into i || (sym fits.owns i && sym is i))) x.rules sets fit.matched)

-- the same of equal things
pub fit_moved : (x now : Expansion) (list : List Cover) (sets slice : List RuleSets) → SetsFit x list sets → x ≡ now → slice ≡ sets → SetsFit now list slice
fit_moved x now list sets slice fit same is =
    subst (λ (ss : List RuleSets). SetsFit now list ss) (sym is) (subst (λ (e : Expansion). SetsFit e list sets) same fit)

match_moved : (g groups : List Group) (s sites : List Site) (r rules : List Rule) (list : List Cover) (sets : List RuleSets) → g ≡ groups → s ≡ sites → r ≡ rules
    → AreMatched (RuleFits g s list) r sets → AreMatched (RuleFits groups sites list) rules sets
match_moved g groups s sites r rules list sets one two three h =
    subst (λ (rs : List Rule). AreMatched (RuleFits groups sites list) rs sets) three
    (subst (λ (ss : List Site). AreMatched (RuleFits groups ss list) r sets) two
    (subst (λ (gs : List Group). AreMatched (RuleFits gs s list) r sets) one h))

-- one rule more
pub rules_more : (start x y : Covering) (rules : List Rule) (i : ℕ) (made new : List RuleSets) (r : Rule) (sets : RuleSets) → i < length rules → r ≡ get_or rules i r → IsGrown start x → IsGrown x y
    → AreMatched (RuleFits x.groups x.sites x.list) (take i rules) made → RuleFits y.groups y.sites y.list r sets → new ≡ made ++ sets ∷ []
    → IsGrown start y × AreMatched (RuleFits y.groups y.sites y.list) (take (i + 1) rules) new
rules_more start x y rules i made new r sets lt is old grown h fits put =
    let kept = matched_weaker (RuleFits x.groups x.sites x.list) (RuleFits y.groups y.sites y.list) (λ r s at. rule_kept x y r s grown at) (take i rules) made h in
    (grown_twice start x y old grown, matched_more (RuleFits y.groups y.sites y.list) rules i made new r sets lt is kept fits put)

pub expansion_fits : (groups : List Group) (rules asked : List Rule) (sites : List Site) (start x : Covering) (list : List Cover) (sets : List RuleSets) → start ≡ record { groups = groups; sites = sites; list = [] }
    → IsGrown start x → asked ≡ rules → list ≡ x.list → AreMatched (RuleFits x.groups x.sites x.list) asked sets → AreMatched (RuleFits groups sites list) rules sets
expansion_fits groups rules asked sites start x list sets is grown same all h =
    let gs : x.groups ≡ groups = grown.groups ∙ ap (λ (c : Covering). c.groups) is in
    let ss : x.sites ≡ sites = grown.sites ∙ ap (λ (c : Covering). c.sites) is in
    subst (λ (cs : List Cover). AreMatched (RuleFits groups sites cs) rules sets) (sym all) (match_moved x.groups groups x.sites sites asked rules x.list sets gs ss same h)
