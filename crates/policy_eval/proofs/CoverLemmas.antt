-- What selectors cover, found once: places, flags, and lists that grow.
use Rattle.std.proofs.Common.{◌≡◌, if◌then◌else◌, ◌<◌, ◌≤◌, ◌+◌, ◌||◌, ℕ, zero, suc, Bool, true, false, List, [], ◌∷◌, ◌++◌, length, append_assoc, arith, get_or, take, refl, ap, sym, ◌∙◌, subst, ◌⊎◌, inl, inr}
use Rattle.std.specs.Prelude.{Contains, Option, Some, map, slice_get}
use Rattle.std.specs.List.{list_any}
use Rattle.std.specs.Option.{option_map, option_map_or}
use Rattle.std.proofs.Math.Bool.{or-false}
use Rattle.std.proofs.lemmas.Bool.{cases_lt}
use Rattle.std.proofs.lemmas.Option.{get_or_from_slice_get, slice_get-map, slice_get_within}
use Rattle.net_addr.specs.Bits.{Address, Block, family_size}
use Rattle.net_rows.proofs.Members.{cut_last}
use Rattle.range_sets.specs.Sets.{Ranges, has, some_holds}
use Rattle.policy_rows.specs.declared.group.Group.{Group}
use Rattle.policy_rows.specs.declared.rule.Rule.{Rule}
use Rattle.policy_rows.specs.declared.selector.Selector.{Selector}
use Rattle.policy_sites.specs.Beyond.{covers_into}
use Rattle.policy_sites.specs.ByRule.{IsSoundSite, covers_served, covers_site, site_end}
use Rattle.policy_eval.specs.Covering.{AreIndexed, Covering, IsCovering, IsGrown, beyond_at, cover_flag, flag_at, flags_by, has_site, place_nets, served_at, some_flag}
use Rattle.policy_sites.specs.Covers.{covers}
use Rattle.policy_sites.specs.Ends.{end_at}
use Rattle.policy_eval.specs.Expansion.{AreFlags, AreMatched, CoverFits, IsCoverAt, IsSetOf, source_covers}
use Rattle.policy_sites.specs.Sites.{AreDistinct, serves_beyond}
use Rattle.policy_eval.specs.declared.cover.Cover.{Cover}
use Rattle.policy_sites.specs.declared.end.End.{End}
use Rattle.policy_sites.specs.declared.site.Site.{Site}
use Rattle.policy_sites.proofs.EndLemmas.{own_end}
use Rattle.policy_eval.proofs.MatchLemmas.{matched_more}
use Rattle.policy_sites.proofs.OwnLemmas.{has_v4, has_v6}

-- whether the selector covers something that a site serves, or one of its own ends
abbrev pub covers_by : Bool → List Group → Site → Selector → Bool
covers_by served groups site selector = if served then covers_served groups site selector else covers_site groups site selector

-- ---- places of lists

pub get_more : {A : Type 0} (xs ys : List A) (i : ℕ) (x : A) → slice_get xs i ≡ Some x → slice_get (xs ++ ys) i ≡ Some x
get_more [] ys i x h = absurd (cc)
get_more (z ∷ xs) ys zero x h = h
get_more (z ∷ xs) ys (suc i) x h = get_more xs ys i x h

pub get_end : {A : Type 0} (xs : List A) (x : A) → slice_get (xs ++ x ∷ []) (length xs) ≡ Some x
get_end [] x = refl
get_end (z ∷ xs) x = get_end xs x

pub get_member : {A : Type 0} (xs : List A) (i : ℕ) (x : A) → slice_get xs i ≡ Some x → Contains xs x
get_member xs i x h = (i, slice_get_within xs i x h, get_or_from_slice_get xs i x _ h)

push_length : {A : Type 0} (xs : List A) (x : A) → length (xs ++ x ∷ []) ≡ length xs + 1
push_length [] x = refl
push_length (y ∷ xs) x = let rest = push_length xs x in omega arith

pub indexed_none : (test : ℕ → Bool) → AreIndexed test 0 []
indexed_none test = record { whole = refl; at = λ n lt. absurd (omega arith) }

-- one number more
pub indexed_more : (test : ℕ → Bool) (count : ℕ) (out new : List Bool) (b : Bool) → AreIndexed test count out → b ≡ test count → new ≡ out ++ b ∷ [] → AreIndexed test (count + 1) new
indexed_more test count out new b h is put =
    let long = push_length out b in
    record { whole = ap length put ∙ (long ∙ ap (λ (n : ℕ). n + 1) h.whole); at = λ n lt. ap (λ (bs : List Bool). slice_get bs n) put ∙ at n (cases_lt n count) lt }
  where
    at : (n : ℕ) → (n < count) ⊎ (count ≤ n) → n < count + 1 → slice_get (out ++ b ∷ []) n ≡ Some (test n)
    at n (inl below) lt = get_more out (b ∷ []) n (test n) (h.at n below)
    at n (inr behind) lt =
        let same : n ≡ count = omega arith in
        ap (λ (j : ℕ). slice_get (out ++ b ∷ []) j) (same ∙ sym h.whole) ∙ (get_end out b ∙ ap (λ (x : Bool). Some x) (is ∙ ap test (sym same)))

-- ---- lists that go together

pub matched_any : {A B : Type 0} (Fits : A → B → Type 0) (f : A → Bool) (g : B → Bool) → ((x : A) (y : B) → Fits x y → f x ≡ g y)
    → (xs : List A) (ys : List B) → AreMatched Fits xs ys → list_any f xs ≡ list_any g ys
matched_any Fits f g same [] [] h = refl
matched_any Fits f g same [] (y ∷ ys) h = absurd h
matched_any Fits f g same (x ∷ xs) [] h = absurd h
matched_any Fits f g same (x ∷ xs) (y ∷ ys) h = λ i. same x y h.0 i || matched_any Fits f g same xs ys h.1 i

pub matched_weaker : {A B : Type 0} (Fits More : A → B → Type 0) → ((x : A) (y : B) → Fits x y → More x y)
    → (xs : List A) (ys : List B) → AreMatched Fits xs ys → AreMatched More xs ys
matched_weaker Fits More to [] [] h = tt
matched_weaker Fits More to [] (y ∷ ys) h = absurd h
matched_weaker Fits More to (x ∷ xs) [] h = absurd h
matched_weaker Fits More to (x ∷ xs) (y ∷ ys) h = (to x y h.0, matched_weaker Fits More to xs ys h.1)

-- ---- flags

-- a site's own addresses in what the selector covers
site_flag : (groups : List Group) (sites : List Site) (selector : Selector) (set : Ranges) (site : Site) → AreDistinct sites → Contains sites site → IsSoundSite site
    → IsSetOf set (λ addr. covers groups selector (end_at sites addr)) → has_site set site ≡ covers_site groups site selector
site_flag groups sites selector set site distinct inside small is =
    let end4 = own_end sites distinct site.v4 site inside (has_v4 site) in
    let end6 = own_end sites distinct site.v6 site inside (has_v6 site) in
    let at4 : has set site.v4 ≡ covers groups selector (site_end site site.v4) = is site.v4 small.v4 ∙ ap (λ (e : End). covers groups selector e) end4 in
    let at6 : has set site.v6 ≡ covers groups selector (site_end site site.v6) = is site.v6 small.v6 ∙ ap (λ (e : End). covers groups selector e) end6 in
    (λ i. at4 i || at6 i) ∙ ap (λ (b : Bool). covers groups selector (site_end site site.v4) || b) (sym (or-false (covers groups selector (site_end site site.v6))))

pub flags_fit : (groups : List Group) (sites : List Site) (selector : Selector) (set : Ranges) (flags : List Bool) → AreDistinct sites → ((s : Site) → Contains sites s → IsSoundSite s)
    → IsSetOf set (λ addr. covers groups selector (end_at sites addr)) → flags ≡ map (has_site set) sites → AreFlags (λ site. covers_site groups site selector) sites flags
flags_fit groups sites selector set flags distinct sound is made at site there =
    let inside = get_member sites at site there in
    let flag = site_flag groups sites selector set site distinct inside (sound site inside) is in
    ap (λ (bs : List Bool). slice_get bs at) made ∙ (slice_get-map (has_site set) sites at ∙ (ap (option_map (has_site set)) there ∙ ap (λ (b : Bool). Some b) flag))

-- what it covers that sites serve
pub served_fit : (groups : List Group) (sites : List Site) (selector : Selector) (flags slice served : List Bool) → AreFlags (λ site. covers_site groups site selector) sites flags → slice ≡ flags
    → AreIndexed (served_at slice sites selector) (length sites) served → AreFlags (λ site. covers_served groups site selector) sites served
served_fit groups sites selector flags slice served fit same made at site there =
    let own : flag_at slice at ≡ covers_site groups site selector =
    ap (λ (bs : List Bool). flag_at bs at) same ∙ ap (λ (o : Option Bool). option_map_or (λ b. b) o false) (fit at site there) in
    let beyond : beyond_at sites selector at ≡ covers_into (serves_beyond site) selector = ap (λ (o : Option Site). option_map_or (λ s. covers_into (serves_beyond s) selector) o false) there in
    made.at at (slice_get_within sites at site there) ∙ (λ i. Some (own i || beyond i))

by_fits : (served : Bool) (groups : List Group) (sites : List Site) (selector : Selector) (cover : Cover) → CoverFits groups sites selector cover
    → AreFlags (λ site. covers_by served groups site selector) sites (flags_by served cover)
by_fits true groups sites selector cover fits = fits.served
by_fits false groups sites selector cover fits = fits.flags

-- the flag of what stands at a place
at_place : (served : Bool) (groups : List Group) (sites : List Site) (list : List Cover) (selector : Selector) (place at : ℕ) (site : Site) → slice_get sites at ≡ Some site
    → IsCoverAt groups sites list selector place → covers_by served groups site selector ≡ cover_flag served list at place
at_place served groups sites list selector place at site there fits =
    let flag : flag_at (flags_by served (fits.0)) at ≡ covers_by served groups site selector = ap (λ (o : Option Bool). option_map_or (λ b. b) o false) (by_fits served groups sites selector (fits.0) fits.2 at site there) in
    let whole : cover_flag served list at place ≡ flag_at (flags_by served (fits.0)) at = ap (λ (o : Option Cover). option_map_or (λ c. flag_at (flags_by served c) at) o false) fits.1 in
    sym (whole ∙ flag)

-- flags of what stands at several places are those of all that it covers
pub some_flags_fit : {A : Type 0} (served : Bool) (to : A → Selector) (groups : List Group) (sites : List Site) (list : List Cover) (xs : List A) (places : List ℕ) (flags : List Bool)
    → AreMatched (λ x place. IsCoverAt groups sites list (to x) place) xs places → AreIndexed (some_flag served list places) (length sites) flags
    → AreFlags (λ site. list_any (λ x. covers_by served groups site (to x)) xs) sites flags
some_flags_fit {A} served to groups sites list xs places flags matched made at site there =
    let inside = slice_get_within sites at site there in
    let same = matched_any (λ x place. IsCoverAt groups sites list (to x) place) (λ x. covers_by served groups site (to x)) (cover_flag served list at)
    (λ x place fits. at_place served groups sites list (to x) place at site there fits) xs places matched in
    made.at at inside ∙ ap (λ (b : Bool). Some b) (sym same)

-- ---- lists of covers that grow

pub grown_self : (x : Covering) → IsGrown x x
grown_self x = record { groups = refl; sites = refl; list = ([], go x.list) }
  where
    go : (xs : List Cover) → xs ≡ xs ++ []
    go [] = refl
    go (c ∷ xs) = ap (λ (ys : List Cover). c ∷ ys) (go xs)

pub grown_twice : (x y z : Covering) → IsGrown x y → IsGrown y z → IsGrown x z
grown_twice x y z a b = record {
  groups = b.groups ∙ a.groups;
  sites = b.sites ∙ a.sites;
  list = ((a.list).0 ++ (b.list).0, (b.list).1 ∙ (ap (λ (cs : List Cover). cs ++ (b.list).0) (a.list).1 ∙ append_assoc x.list (a.list).0 (b.list).0));
}

pub cover_kept : (x y : Covering) (selector : Selector) (place : ℕ) → IsGrown x y → IsCoverAt x.groups x.sites x.list selector place → IsCoverAt y.groups y.sites y.list selector place
cover_kept x y selector place grown at =
    let here : slice_get y.list place ≡ Some at.0 = ap (λ (cs : List Cover). slice_get cs place) (grown.list).1 ∙ get_more x.list (grown.list).0 place at.0 at.1 in
    (at.0, here, subst (λ (gs : List Group). CoverFits gs y.sites selector at.0) (sym grown.groups) (subst (λ (ss : List Site). CoverFits x.groups ss selector at.0) (sym grown.sites) at.2))

pub places_kept : {A : Type 0} (to : A → Selector) (x y : Covering) (xs : List A) (places : List ℕ) → IsGrown x y
    → AreMatched (λ z place. IsCoverAt x.groups x.sites x.list (to z) place) xs places → AreMatched (λ z place. IsCoverAt y.groups y.sites y.list (to z) place) xs places
places_kept {A} to x y xs places grown h =
    matched_weaker (λ z place. IsCoverAt x.groups x.sites x.list (to z) place) (λ z place. IsCoverAt y.groups y.sites y.list (to z) place)
    (λ z place at. cover_kept x y (to z) place grown at) xs places h

pub sources_kept : (x y : Covering) (sources asked : List Selector) (places : List ℕ) → asked ≡ sources → IsGrown x y
    → AreMatched (IsCoverAt x.groups x.sites x.list) asked places → AreMatched (IsCoverAt y.groups y.sites y.list) sources places
sources_kept x y sources asked places same grown h =
    subst (λ (ss : List Selector). AreMatched (IsCoverAt y.groups y.sites y.list) ss places) same (places_kept (λ (s : Selector). s) x y asked places grown h)

-- the selector's own stands where it was found
pub found_at : (x : Covering) (items : List Cover) (place : ℕ) (cover : Cover) (selector : Selector) → IsCovering x → items ≡ x.list → slice_get items place ≡ Some cover
    → cover.selector ≡ selector → IsCoverAt x.groups x.sites x.list selector place
found_at x items place cover selector sound same there own =
    let here : slice_get x.list place ≡ Some cover = ap (λ (cs : List Cover). slice_get cs place) (sym same) ∙ there in
    (cover, here, subst (λ (s : Selector). CoverFits x.groups x.sites s cover) own (sound.covers cover (get_member x.list place cover here)))

-- what stands at the places of sources holds what they cover
one_held : (groups : List Group) (sites : List Site) (list : List Cover) (addr : Address) → addr.bits < family_size addr.v6 → (selector : Selector) (place : ℕ) → IsCoverAt groups sites list selector place
    → covers groups selector (end_at sites addr) ≡ some_holds (place_nets list place) addr
one_held groups sites list addr small selector place at =
    let nets : place_nets list place ≡ (at.0).nets = ap (λ (o : Option Cover). option_map_or (λ c. c.nets) o []) at.1 in
    sym (ap (λ (ns : List Block). some_holds ns addr) nets ∙ at.2.nets addr small)

pub sources_held : (groups : List Group) (sites : List Site) (list slice : List Cover) (r : Rule) (places : List ℕ) (addr : Address) → addr.bits < family_size addr.v6 → slice ≡ list
    → AreMatched (IsCoverAt groups sites list) r.sources places → list_any (λ place. some_holds (place_nets slice place) addr) places ≡ source_covers groups sites r addr
sources_held groups sites list slice r places addr small is h =
    ap (λ (cs : List Cover). list_any (λ place. some_holds (place_nets cs place) addr) places) is
    ∙ sym (matched_any (IsCoverAt groups sites list) (λ s. covers groups s (end_at sites addr)) (λ place. some_holds (place_nets list place) addr)
    (one_held groups sites list addr small) r.sources places h)

pub flags_of_places : {A : Type 0} (served : Bool) (to : A → Selector) (groups : List Group) (sites slice : List Site) (list covers : List Cover) (xs : List A) (places looked : List ℕ) (flags : List Bool)
    → slice ≡ sites → covers ≡ list → looked ≡ places → AreMatched (λ x place. IsCoverAt groups sites list (to x) place) xs places → AreIndexed (some_flag served covers looked) (length slice) flags
    → AreFlags (λ site. list_any (λ x. covers_by served groups site (to x)) xs) sites flags
flags_of_places {A} served to groups sites slice list covers xs places looked flags one two three matched made =
    let moved : AreIndexed (some_flag served list places) (length sites) flags =
    subst (λ (ss : List Site). AreIndexed (some_flag served list places) (length ss) flags) one
    (subst (λ (ps : List ℕ). AreIndexed (some_flag served list ps) (length slice) flags) three
    (subst (λ (cs : List Cover). AreIndexed (some_flag served cs looked) (length slice) flags) two made)) in
    some_flags_fit served to groups sites list xs places flags matched moved

-- one place more
pub places_more : {A : Type 0} (to : A → Selector) (start x y : Covering) (xs : List A) (i : ℕ) (places new : List ℕ) (item : A) (place : ℕ) → i < length xs → item ≡ get_or xs i item
    → IsGrown start x → IsGrown x y → AreMatched (λ z p. IsCoverAt x.groups x.sites x.list (to z) p) (take i xs) places → IsCoverAt y.groups y.sites y.list (to item) place → new ≡ places ++ place ∷ []
    → IsGrown start y × AreMatched (λ z p. IsCoverAt y.groups y.sites y.list (to z) p) (take (i + 1) xs) new
places_more {A} to start x y xs i places new item place lt is old grown h at put =
    let kept = places_kept to x y (take i xs) places grown h in
    (grown_twice start x y old grown, matched_more (λ z p. IsCoverAt y.groups y.sites y.list (to z) p) xs i places new item place lt is kept at put)

-- one cover more
pub covering_more : (groups : List Group) (sites : List Site) (list new : List Cover) (cover : Cover) (selector : Selector) → IsCovering (record { groups = groups; sites = sites; list = list })
    → CoverFits groups sites selector cover → new ≡ list ++ cover ∷ [] → IsCovering (record { groups = groups; sites = sites; list = new })
covering_more groups sites list new cover selector sound fits put = record {
  distinct = sound.distinct;
  sound = sound.sound;
  covers = λ c inside.
      elim (cut_last list cover c (subst (λ (cs : List Cover). Contains cs c) put inside)) [
        | inl e ↦ subst (λ (z : Cover). CoverFits groups sites z.selector z) (sym e) (subst (λ (s : Selector). CoverFits groups sites s cover) (sym fits.own) fits)
        | inr before ↦ sound.covers c before
      ];
}
