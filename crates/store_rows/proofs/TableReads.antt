-- Each table's rows are read as their values.
use Rattle.std.proofs.Common.{◌≡◌, ◌<◌, ◌≤◌, ◌^◌, ◌%◌, ℕ, ℤ, pos, negsuc, Bool, true, false, cond, List, [], ◌∷◌, length, Option, Some, None, ◌&&◌, eqb, nat_lt, nat_le, int_le, arith, refl, sym, ap, ◌∙◌}
use Rattle.std.specs.Prelude.{⊤}
use Rattle.std.specs.List.{All, list_all}
use Rattle.std.specs.Option.{option_map}
use Rattle.std.specs.Result.{result_ok}
use Rattle.std.proofs.lemmas.Bool.{and_parts, and_from, eq-eqb}
use Rattle.std.proofs.lemmas.Bool.Decides.{nat_tests}
use Rattle.std.proofs.lemmas.Int.{ints}
use Rattle.std.proofs.lemmas.List.Elements.{All-cons, All-head, All-nil, All-tail}
use Rattle.net_addr.specs.Moments.{IsMoment, first_moment, last_moment}
use Rattle.net_addr.specs.AddrTexts.{addr_of_text, addr_text}
use Rattle.net_addr.specs.Bits.{Block, IsBlock, family_bits, family_size, size_of}
use Rattle.net_addr.specs.EndpointTexts.{endpoint_of_text, endpoint_text}
use Rattle.net_addr.specs.PrefixTexts.{prefix_of_text, prefix_text}
use Rattle.net_addr.specs.declared.endpoint.Endpoint.{Endpoint}
use Rattle.net_addr.proofs.PrefixLemmas.{addr_again}
use Rattle.net_rows.specs.declared.change.Counters.{Counters}
use Rattle.net_rows.specs.declared.key.AuthKey.{AuthKey}
use Rattle.net_rows.specs.declared.machine.Machine.{Machine}
use Rattle.net_rows.specs.declared.pending.Pending.{Pending}
use Rattle.net_rows.specs.declared.user.User.{User}
use Rattle.tail_base.specs.Labels.{is_label}
use Rattle.tail_base.specs.Logins.{is_login}
use Rattle.tail_base.specs.Tags.{is_tag, tag_of}
use Rattle.tailcfg.specs.declared.dns.DnsExtra.{DnsExtra}
use Rattle.store_rows.specs.Addresses.{IsAddress, IsV4, IsV6, address_cell, address_text_cell, v6_bytes, v6_in}
use Rattle.store_rows.specs.Cells.{IsExpiry, expiry_cell, truth_cell}
use Rattle.store_rows.specs.Endpoints.{IsEndpoint}
use Rattle.store_rows.specs.Lists.{list_text, spelled_list}
use Rattle.store_rows.specs.Reads.{IsReadBack}
use Rattle.store_rows.specs.Reading.{address_of, any_text, auth_key_of, checked_text, endpoints_of, expiry_in_cell, extra_of, is_address, is_block, is_endpoint, key_in_cell, list_in_cell, machine_in_cells, meta_of, moment_in_cell, natural_of, on_number, pending_in_cells, policy_in_cells, routes_of, tags_of, text_that, this_of, truth_of, user_in_cells, v4_of, v6_of}
use Rattle.store_rows.specs.Rows.{IsTypedCounters, IsTypedExtra, IsTypedKey, IsTypedMachine, IsTypedPending, IsTypedUser, auth_key_cells, extra_cells, machine_cells, meta_cells, pending_cells, policy_cells, tags_cell, user_cells}
use Rattle.store_rows.specs.declared.cell.Cell.{Cell}
use Rattle.store_rows.specs.declared.cell.Cell.TheVariants.{Null, Number, Text, Blob, Other}
use Rattle.store_rows.proofs.AddressLemmas.{IsV6Number, blob_read, number_read, v4_stored, v6_again, v6_stored}
use Rattle.store_rows.proofs.ListLemmas.{AreListed, list_again}
use Rattle.store_rows.proofs.ReadingLemmas.{Reads, blob_reads, checked_reads, end_reads, mapped_reads, number_reads, text_reads, then_reads}
use Rattle.store_rows.proofs.RouteTexts.{endpoint_listed, prefix_listed}
use Rattle.store_rows.proofs.TagTexts.{tag_listed}

-- ---- numbers

natural_reads : Reads pos (λ n. n < 2 ^ 32) natural_of
natural_reads (pos n) = go (nat_lt n (2 ^ 32)) refl
  where
    go : (b : Bool) → nat_lt n (2 ^ 32) ≡ b → IsReadBack pos (λ m. m < 2 ^ 32) (pos n) (cond b (Some n) None)
    go true is = record { is = (refl, grind (arith, nat_tests)); only = λ x fit e. ap Some (let same : x ≡ n = cc (e) in sym same) }
    go false is = record { is = tt; only = λ x fit e. let same : x ≡ n = cc (e) in absurd (grind (arith, nat_tests)) }
natural_reads (negsuc n) = record { is = tt; only = λ x fit e. absurd (cc (e)) }

pub naturals : Reads (λ n. Number (pos n)) (λ n. n < 2 ^ 32) (on_number natural_of)
naturals = number_reads pos (λ n. n < 2 ^ 32) natural_of natural_reads

this_reads : (m : ℕ) → Reads (λ (u : ⊤). pos m) (λ _. ⊤) (this_of m)
this_reads m (pos n) = go (eqb n m) refl
  where
    go : (b : Bool) → eqb n m ≡ b → IsReadBack (λ (u : ⊤). pos m) (λ _. ⊤) (pos n) (cond b (Some tt) None)
    go true is = let same : n ≡ m = grind (arith, nat_tests) in record { is = (ap pos (sym same), tt); only = λ x fit e. refl }
    go false is = record { is = tt; only = λ x fit e. let same : m ≡ n = cc (e) in absurd (grind (arith, nat_tests)) }
this_reads m (negsuc n) = record { is = tt; only = λ x fit e. absurd (cc (e)) }

pub these : (m : ℕ) → Reads (λ (u : ⊤). Number (pos m)) (λ _. ⊤) (on_number (this_of m))
these m = number_reads (λ (u : ⊤). pos m) (λ _. ⊤) (this_of m) (this_reads m)

truth_number : Bool → ℤ
truth_number true = pos 1
truth_number false = pos 0

truth_cells : (b : Bool) → Number (truth_number b) ≡ truth_cell b
unfolding truth_number
truth_cells true = refl
truth_cells false = refl

truth_only : (b : Bool) (n : ℕ) → truth_number b ≡ pos n → cond (eqb n 0) (Some false) (cond (eqb n 1) (Some true) None) ≡ Some b
unfolding truth_number
truth_only true n e = let same : 1 ≡ n = cc (e) in ap (λ k. cond (eqb k 0) (Some false) (cond (eqb k 1) (Some true) None)) (sym same)
truth_only false n e = let same : 0 ≡ n = cc (e) in ap (λ k. cond (eqb k 0) (Some false) (cond (eqb k 1) (Some true) None)) (sym same)

truth_reads : Reads truth_number (λ _. ⊤) truth_of
unfolding truth_number
truth_reads (pos n) = go (eqb n 0) (eqb n 1) refl refl (λ b fit e. truth_only b n e)
  where
    go : (zero one : Bool) → eqb n 0 ≡ zero → eqb n 1 ≡ one → ((b : Bool) → ⊤ → truth_number b ≡ pos n → cond zero (Some false) (cond one (Some true) None) ≡ Some b)
        → IsReadBack truth_number (λ _. ⊤) (pos n) (cond zero (Some false) (cond one (Some true) None))
    go true one a b only = let same : n ≡ 0 = grind (arith, nat_tests) in record { is = (ap pos (sym same), tt); only = only }
    go false true a b only = let same : n ≡ 1 = grind (arith, nat_tests) in record { is = (ap pos (sym same), tt); only = only }
    go false false a b only = record { is = tt; only = only }
truth_reads (negsuc n) = record { is = tt; only = λ b fit e. go b e }
  where
    go : (b : Bool) → truth_number b ≡ negsuc n → None ≡ Some b
    go true e = absurd (cc (e))
    go false e = absurd (cc (e))

truths_from : (f : Bool → Cell) → ((b : Bool) → Number (truth_number b) ≡ f b) → (given : Cell) (found : Option Bool) → IsReadBack (λ b. Number (truth_number b)) (λ _. ⊤) given found → IsReadBack f (λ _. ⊤) given found
truths_from f same given None read = record { is = tt; only = λ b fit e. read.only b tt (same b ∙ e) }
truths_from f same given (Some b) read = record { is = (sym (same b) ∙ read.is.0, tt); only = λ c fit e. read.only c tt (same c ∙ e) }

pub truths : Reads truth_cell (λ _. ⊤) (on_number truth_of)
truths given = truths_from truth_cell truth_cells given (on_number truth_of given) (number_reads truth_number (λ _. ⊤) truth_of truth_reads given)

moment_reads : Reads (λ n. n) IsMoment moment_in_cell
moment_reads n = go (int_le first_moment n && int_le n last_moment) refl
  where
    go : (b : Bool) → int_le first_moment n && int_le n last_moment ≡ b → IsReadBack (λ m. m) IsMoment n (cond b (Some n) None)
    go true is = record { is = (refl, grind (arith, ints, nat_tests)); only = λ x fit e. ap Some (sym e) }
    go false is = record { is = tt; only = λ x fit e. absurd (grind (arith, ints, nat_tests)) }

pub moments : Reads Number IsMoment (on_number moment_in_cell)
moments = number_reads (λ n. n) IsMoment moment_in_cell moment_reads

pub expiries : Reads expiry_cell IsExpiry expiry_in_cell
expiries Null = record { is = (refl, tt); only = go }
  where
    go : (o : Option ℤ) → IsExpiry o → expiry_cell o ≡ Null → Some None ≡ Some o
    go None fit e = refl
    go (Some m) fit e = absurd (cc (e))
expiries (Number n) = go (moment_in_cell n) (moment_reads n)
  where
    none_only : (o : Option ℤ) → IsReadBack (λ m. m) IsMoment n None → IsExpiry o → expiry_cell o ≡ Number n → None ≡ Some o
    none_only None read fit e = absurd (cc (e))
    none_only (Some m) read fit e = let bad : None ≡ Some m = read.only m fit (cc (e)) in absurd (cc (bad))

    some_only : (y : ℤ) (o : Option ℤ) → IsReadBack (λ m. m) IsMoment n (Some y) → IsExpiry o → expiry_cell o ≡ Number n → Some (Some y) ≡ Some o
    some_only y None read fit e = absurd (cc (e))
    some_only y (Some m) read fit e = ap Some (read.only m fit (cc (e)))

    go : (found : Option ℤ) → IsReadBack (λ m. m) IsMoment n found → IsReadBack expiry_cell IsExpiry (Number n) (option_map (λ m. Some m) found)
    go None read = record { is = tt; only = λ o fit e. none_only o read fit e }
    go (Some y) read = record { is = (ap Number read.is.0, read.is.1); only = λ o fit e. some_only y o read fit e }
expiries (Text bytes) = record { is = tt; only = go }
  where
    go : (o : Option ℤ) → IsExpiry o → expiry_cell o ≡ Text bytes → None ≡ Some o
    go None fit e = absurd (cc (e))
    go (Some m) fit e = absurd (cc (e))
expiries (Blob bytes) = record { is = tt; only = go }
  where
    go : (o : Option ℤ) → IsExpiry o → expiry_cell o ≡ Blob bytes → None ≡ Some o
    go None fit e = absurd (cc (e))
    go (Some m) fit e = absurd (cc (e))
expiries Other = record { is = tt; only = go }
  where
    go : (o : Option ℤ) → IsExpiry o → expiry_cell o ≡ Other → None ≡ Some o
    go None fit e = absurd (cc (e))
    go (Some m) fit e = absurd (cc (e))

-- ---- texts and bytes

pub any_texts : Reads Text (λ _. ⊤) any_text
any_texts = text_reads (λ bytes. bytes) (λ _. ⊤) (λ bytes. Some bytes) (λ given. record { is = (refl, tt); only = λ x fit e. ap Some (sym e) })

pub texts_that : (fits : List ℕ → Bool) → Reads Text (λ bytes. fits bytes ≡ true) (text_that fits)
texts_that fits = text_reads (λ bytes. bytes) (λ bytes. fits bytes ≡ true) (checked_text (λ bytes. bytes) fits (λ bytes. Some bytes))
    (checked_reads (λ bytes. bytes) (λ bytes. fits bytes ≡ true) fits (λ bytes. Some bytes) (λ x fit. refl) (λ x h. h) (λ x h. h))

pub keys : Reads Blob (λ bytes. length bytes ≡ 32) key_in_cell
keys = blob_reads (λ bytes. bytes) (λ bytes. length bytes ≡ 32) (checked_text (λ bytes. bytes) (λ bytes. eqb (length bytes) 32) (λ bytes. Some bytes))
    (checked_reads (λ bytes. bytes) (λ bytes. length bytes ≡ 32) (λ bytes. eqb (length bytes) 32) (λ bytes. Some bytes) (λ x fit. refl) (λ x h. grind (arith, nat_tests)) (λ x h. eq-eqb (length x) 32 h))

all_fit : {T : Type 0} (fits : T → Bool) (Fits : T → Type 0) → ((x : T) → fits x ≡ true → Fits x) → (xs : List T) → list_all fits xs ≡ true → All Fits xs
all_fit fits Fits there [] h = All-nil Fits
all_fit fits Fits there (x ∷ xs) h = let both = and_parts (fits x) (list_all fits xs) h in All-cons Fits x xs (there x both.0) (all_fit fits Fits there xs both.1)

fit_all : {T : Type 0} (fits : T → Bool) (Fits : T → Type 0) → ((x : T) → Fits x → fits x ≡ true) → (xs : List T) → All Fits xs → list_all fits xs ≡ true
fit_all fits Fits back [] h = refl
fit_all fits Fits back (x ∷ xs) h = and_from _ _ (back x (All-head Fits x xs h)) (fit_all fits Fits back xs (All-tail Fits x xs h))

pub lists : {T : Type 0} (text : T → List ℕ) (of_text : List ℕ → Option T) (Fits : T → Type 0) (fits : T → Bool) → AreListed text of_text Fits → ((x : T) → fits x ≡ true → Fits x) → ((x : T) → Fits x → fits x ≡ true)
    → Reads (λ xs. Text (list_text text xs)) (All Fits) (list_in_cell text fits of_text)
lists text of_text Fits fits listed there back = text_reads (list_text text) (All Fits) (checked_text (list_text text) (list_all fits) (spelled_list of_text))
    (checked_reads (list_text text) (All Fits) (list_all fits) (spelled_list of_text) (list_again text of_text Fits listed) (all_fit fits Fits there) (fit_all fits Fits back))

pub tags : Reads tags_cell (All (λ tag. is_tag tag ≡ true)) tags_of
tags = lists (λ tag. tag) tag_of (λ tag. is_tag tag ≡ true) is_tag tag_listed (λ x h. h) (λ x h. h)

lt_there : (m n : ℕ) → nat_lt m n ≡ true → m < n
lt_there m n e = grind (arith, nat_tests)

le_there : (m n : ℕ) → nat_le m n ≡ true → m ≤ n
le_there m n e = grind (arith, nat_tests)

eq_there : (m n : ℕ) → eqb m n ≡ true → m ≡ n
eq_there m n e = grind (arith, nat_tests)

block_there : (p : Block) → is_block p ≡ true → IsBlock p
block_there p h =
    let a = and_parts (nat_lt p.base.bits (family_size p.base.v6) && nat_le p.len (family_bits p.base.v6)) (eqb (p.base.bits % size_of p) 0) h in
    let b = and_parts (nat_lt p.base.bits (family_size p.base.v6)) (nat_le p.len (family_bits p.base.v6)) a.0 in
    record { in_family = lt_there _ _ b.0; fits = le_there _ _ b.1; aligned = eq_there _ _ a.1 }

lt_back : (m n : ℕ) → m < n → nat_lt m n ≡ true
lt_back m n e = grind (arith, nat_tests)

le_back : (m n : ℕ) → m ≤ n → nat_le m n ≡ true
le_back m n e = grind (arith, nat_tests)

block_back : (p : Block) → IsBlock p → is_block p ≡ true
block_back p h = and_from _ _ (and_from _ _ (lt_back _ _ h.in_family) (le_back _ _ h.fits)) (eq-eqb _ _ h.aligned)

pub routes : Reads (λ xs. Text (list_text prefix_text xs)) (All IsBlock) routes_of
routes = lists prefix_text (λ text. result_ok (prefix_of_text text)) IsBlock is_block prefix_listed block_there block_back

endpoint_there : (e : Endpoint) → is_endpoint e ≡ true → IsEndpoint e
endpoint_there e h = let a = and_parts (nat_lt e.addr.bits (family_size e.addr.v6)) _ h in record { addr = lt_there _ _ a.0; port = lt_there _ _ a.1 }

endpoint_back : (e : Endpoint) → IsEndpoint e → is_endpoint e ≡ true
endpoint_back e h = and_from _ _ (lt_back _ _ h.addr) (lt_back _ _ h.port)

pub endpoints : Reads (λ xs. Text (list_text endpoint_text xs)) (All IsEndpoint) endpoints_of
endpoints = lists endpoint_text endpoint_of_text IsEndpoint is_endpoint endpoint_listed endpoint_there endpoint_back

-- ---- addresses

pub v4s : Reads address_cell IsV4 v4_of
v4s Null = record { is = tt; only = λ x fit e. let bad : Number (pos x.bits) ≡ Null = sym (v4_stored x fit.family) ∙ e in absurd (cc (bad)) }
v4s (Number n) = number_read n (natural_of n) (natural_reads n)
v4s (Text bytes) = record { is = tt; only = λ x fit e. let bad : Number (pos x.bits) ≡ Text bytes = sym (v4_stored x fit.family) ∙ e in absurd (cc (bad)) }
v4s (Blob bytes) = record { is = tt; only = λ x fit e. let bad : Number (pos x.bits) ≡ Blob bytes = sym (v4_stored x fit.family) ∙ e in absurd (cc (bad)) }
v4s Other = record { is = tt; only = λ x fit e. let bad : Number (pos x.bits) ≡ Other = sym (v4_stored x fit.family) ∙ e in absurd (cc (bad)) }

v6_number_reads : Reads v6_bytes IsV6Number (checked_text v6_bytes (λ bits. nat_lt bits (2 ^ 128)) v6_in)
v6_number_reads = checked_reads v6_bytes IsV6Number (λ bits. nat_lt bits (2 ^ 128)) v6_in v6_again (λ x h. lt_there x (2 ^ 128) h) (λ x h. lt_back x (2 ^ 128) h)

pub v6s : Reads address_cell IsV6 v6_of
v6s Null = record { is = tt; only = λ x fit e. let bad : Blob (v6_bytes x.bits) ≡ Null = sym (v6_stored x fit.family) ∙ e in absurd (cc (bad)) }
v6s (Number n) = record { is = tt; only = λ x fit e. let bad : Blob (v6_bytes x.bits) ≡ Number n = sym (v6_stored x fit.family) ∙ e in absurd (cc (bad)) }
v6s (Text bytes) = record { is = tt; only = λ x fit e. let bad : Blob (v6_bytes x.bits) ≡ Text bytes = sym (v6_stored x fit.family) ∙ e in absurd (cc (bad)) }
v6s (Blob bytes) = blob_read bytes (checked_text v6_bytes (λ bits. nat_lt bits (2 ^ 128)) v6_in bytes) (v6_number_reads bytes)
v6s Other = record { is = tt; only = λ x fit e. let bad : Blob (v6_bytes x.bits) ≡ Other = sym (v6_stored x fit.family) ∙ e in absurd (cc (bad)) }

pub addresses : Reads address_text_cell IsAddress address_of
addresses = text_reads addr_text IsAddress (checked_text addr_text is_address addr_of_text)
    (checked_reads addr_text IsAddress is_address addr_of_text (λ addr small. addr_again addr small (addr_text addr) refl) (λ addr h. lt_there _ _ h) (λ addr h. lt_back _ _ h))

-- ---- rows

pub meta_reads : Reads meta_cells IsTypedCounters meta_of
meta_reads = mapped_reads meta_cells IsTypedCounters _ _ _ (λ (x : Counters). (tt, (tt, (x.user, (x.key, (x.pending, (x.machine, tt)))))))
    (λ p. record { user = p.1.1.0; key = p.1.1.1.0; pending = p.1.1.1.1.0; machine = p.1.1.1.1.1.0 })
    (then_reads _ _ _ _ _ _ (these 1) (then_reads _ _ _ _ _ _ (these 1) (then_reads _ _ _ _ _ _ naturals (then_reads _ _ _ _ _ _ naturals (then_reads _ _ _ _ _ _ naturals (then_reads _ _ _ _ _ _ naturals end_reads))))))
    (λ x. refl) (λ x fit. (tt, (tt, (fit.user, (fit.key, (fit.pending, (fit.machine, tt))))))) (λ x. refl) (λ q fit. refl)
    (λ q fit. record { user = fit.1.1.0; key = fit.1.1.1.0; pending = fit.1.1.1.1.0; machine = fit.1.1.1.1.1.0 })

pub user_reads : Reads user_cells IsTypedUser user_in_cells
user_reads = mapped_reads user_cells IsTypedUser _ _ _ (λ (x : User). (x.id, (x.login, tt))) (λ p. record { id = p.0; login = p.1.0 })
    (then_reads _ _ _ _ _ _ naturals (then_reads _ _ _ _ _ _ (texts_that is_login) end_reads))
    (λ x. refl) (λ x fit. (fit.id, (fit.login, tt))) (λ x. refl) (λ q fit. refl) (λ q fit. record { id = fit.0; login = fit.1.0 })

pub auth_key_reads : Reads auth_key_cells IsTypedKey auth_key_of
auth_key_reads = mapped_reads auth_key_cells IsTypedKey _ _ _ (λ (x : AuthKey). (x.id, (x.text, (x.user, (x.reusable, (x.ephemeral, (x.used, (x.expiry, (x.tags, tt)))))))))
    (λ p. record { id = p.0; text = p.1.0; user = p.1.1.0; reusable = p.1.1.1.0; ephemeral = p.1.1.1.1.0; used = p.1.1.1.1.1.0; expiry = p.1.1.1.1.1.1.0; tags = p.1.1.1.1.1.1.1.0 })
    (then_reads _ _ _ _ _ _ naturals (then_reads _ _ _ _ _ _ any_texts (then_reads _ _ _ _ _ _ naturals (then_reads _ _ _ _ _ _ truths (then_reads _ _ _ _ _ _ truths (then_reads _ _ _ _ _ _ truths
    (then_reads _ _ _ _ _ _ expiries (then_reads _ _ _ _ _ _ tags end_reads))))))))
    (λ x. refl) (λ x fit. (fit.id, (tt, (fit.user, (tt, (tt, (tt, (fit.expiry, (fit.tags, tt))))))))) (λ x. refl) (λ q fit. refl)
    (λ q fit. record { id = fit.0; user = fit.1.1.0; expiry = fit.1.1.1.1.1.1.0; tags = fit.1.1.1.1.1.1.1.0 })

pub pending_reads : Reads pending_cells IsTypedPending pending_in_cells
pending_reads = mapped_reads pending_cells IsTypedPending _ _ _
    (λ (x : Pending). (x.id, (x.text, (x.machine.0, (x.node.0, (x.host, (x.routes, (x.tags, (x.ephemeral, (x.expiry, (x.made, tt)))))))))))
    (λ p. record { id = p.0; text = p.1.0; machine = record { 0 = p.1.1.0 }; node = record { 0 = p.1.1.1.0 }; host = p.1.1.1.1.0; routes = p.1.1.1.1.1.0; tags = p.1.1.1.1.1.1.0; ephemeral = p.1.1.1.1.1.1.1.0; expiry = p.1.1.1.1.1.1.1.1.0; made = p.1.1.1.1.1.1.1.1.1.0 })
    (then_reads _ _ _ _ _ _ naturals (then_reads _ _ _ _ _ _ any_texts (then_reads _ _ _ _ _ _ keys (then_reads _ _ _ _ _ _ keys (then_reads _ _ _ _ _ _ any_texts (then_reads _ _ _ _ _ _ routes
    (then_reads _ _ _ _ _ _ tags (then_reads _ _ _ _ _ _ truths (then_reads _ _ _ _ _ _ expiries (then_reads _ _ _ _ _ _ moments end_reads))))))))))
    (λ x. refl) (λ x fit. (fit.id, (tt, (fit.machine, (fit.node, (tt, (fit.routes, (fit.tags, (tt, (fit.expiry, (fit.made, tt))))))))))) (λ x. refl) (λ q fit. refl)
    (λ q fit. record { id = fit.0; machine = fit.1.1.0; node = fit.1.1.1.0; routes = fit.1.1.1.1.1.0; tags = fit.1.1.1.1.1.1.0; expiry = fit.1.1.1.1.1.1.1.1.0; made = fit.1.1.1.1.1.1.1.1.1.0 })

pub machine_reads : Reads machine_cells IsTypedMachine machine_in_cells
machine_reads = mapped_reads machine_cells IsTypedMachine _ _ _
    (λ (x : Machine). (x.id, (x.user, (x.machine.0, (x.node.0, (x.disco.0, (x.host, (x.name, (x.v4, (x.v6, (x.endpoints, (x.derp, (x.routes, (x.approved, (x.tags, (x.ephemeral, (x.expiry, (x.created, tt))))))))))))))))))
    (λ p. record { id = p.0; user = p.1.0; machine = record { 0 = p.1.1.0 }; node = record { 0 = p.1.1.1.0 }; disco = record { 0 = p.1.1.1.1.0 }; host = p.1.1.1.1.1.0; name = p.1.1.1.1.1.1.0; v4 = p.1.1.1.1.1.1.1.0; v6 = p.1.1.1.1.1.1.1.1.0; endpoints = p.1.1.1.1.1.1.1.1.1.0; derp = p.1.1.1.1.1.1.1.1.1.1.0; routes = p.1.1.1.1.1.1.1.1.1.1.1.0; approved = p.1.1.1.1.1.1.1.1.1.1.1.1.0; tags = p.1.1.1.1.1.1.1.1.1.1.1.1.1.0; ephemeral = p.1.1.1.1.1.1.1.1.1.1.1.1.1.1.0; expiry = p.1.1.1.1.1.1.1.1.1.1.1.1.1.1.1.0; created = p.1.1.1.1.1.1.1.1.1.1.1.1.1.1.1.1.0 })
    (then_reads _ _ _ _ _ _ naturals (then_reads _ _ _ _ _ _ naturals (then_reads _ _ _ _ _ _ keys (then_reads _ _ _ _ _ _ keys (then_reads _ _ _ _ _ _ keys (then_reads _ _ _ _ _ _ any_texts
    (then_reads _ _ _ _ _ _ (texts_that is_label) (then_reads _ _ _ _ _ _ v4s (then_reads _ _ _ _ _ _ v6s (then_reads _ _ _ _ _ _ endpoints (then_reads _ _ _ _ _ _ naturals (then_reads _ _ _ _ _ _ routes
    (then_reads _ _ _ _ _ _ routes (then_reads _ _ _ _ _ _ tags (then_reads _ _ _ _ _ _ truths (then_reads _ _ _ _ _ _ expiries (then_reads _ _ _ _ _ _ moments end_reads)))))))))))))))))
    (λ x. refl) (λ x fit. (fit.id, (fit.user, (fit.machine, (fit.node, (fit.disco, (tt, (fit.name, (fit.v4, (fit.v6, (fit.endpoints, (fit.derp, (fit.routes, (fit.approved, (fit.tags, (tt, (fit.expiry, (fit.created, tt)))))))))))))))))) (λ x. refl) (λ q fit. refl)
    (λ q fit. record { id = fit.0; user = fit.1.0; machine = fit.1.1.0; node = fit.1.1.1.0; disco = fit.1.1.1.1.0; name = fit.1.1.1.1.1.1.0; v4 = fit.1.1.1.1.1.1.1.0; v6 = fit.1.1.1.1.1.1.1.1.0; endpoints = fit.1.1.1.1.1.1.1.1.1.0; derp = fit.1.1.1.1.1.1.1.1.1.1.0; routes = fit.1.1.1.1.1.1.1.1.1.1.1.0; approved = fit.1.1.1.1.1.1.1.1.1.1.1.1.0; tags = fit.1.1.1.1.1.1.1.1.1.1.1.1.1.0; expiry = fit.1.1.1.1.1.1.1.1.1.1.1.1.1.1.1.0; created = fit.1.1.1.1.1.1.1.1.1.1.1.1.1.1.1.1.0 })

pub extra_reads : (place : ℕ) → Reads (extra_cells place) IsTypedExtra (extra_of place)
extra_reads place = mapped_reads (extra_cells place) IsTypedExtra _ _ _ (λ (x : DnsExtra). (tt, (x.name, (x.addr, tt)))) (λ p. record { name = p.1.0; addr = p.1.1.0 })
    (then_reads _ _ _ _ _ _ (these place) (then_reads _ _ _ _ _ _ any_texts (then_reads _ _ _ _ _ _ addresses end_reads)))
    (λ x. refl) (λ x fit. (tt, (tt, (fit, tt)))) (λ x. refl) (λ q fit. refl) (λ q fit. fit.1.1.0)

pub policy_reads : Reads policy_cells (λ _. ⊤) policy_in_cells
policy_reads = mapped_reads policy_cells (λ _. ⊤) _ _ _ (λ (x : List ℕ). (tt, (x, tt))) (λ p. p.1.0)
    (then_reads _ _ _ _ _ _ (these 1) (then_reads _ _ _ _ _ _ any_texts end_reads))
    (λ x. refl) (λ x fit. (tt, (tt, tt))) (λ x. refl) (λ q fit. refl) (λ q fit. tt)
