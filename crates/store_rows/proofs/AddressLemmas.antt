-- Addresses are read again from what is stored of them.
use Rattle.std.proofs.Common.{◌≡◌, ◌<◌, ◌+◌, ◌*◌, ◌/◌, ◌%◌, ◌^◌, ℕ, ℤ, pos, Bool, true, false, cond, List, ◌++◌, length, take, drop, eqb, Option, Some, None, arith, refl, sym, ap, ◌∙◌}
use Rattle.std.specs.Int.{from_be_bytes, to_be_bytes, w64}
use Rattle.std.specs.Option.{option_map}
use Rattle.std.proofs.lemmas.Bool.{cond-true, eq-eqb}
use Rattle.std.proofs.lemmas.List.{drop_at, take_at}
use Rattle.std.proofs.lemmas.Nat.{from_be_bytes-to_be_bytes_8}
use Rattle.net_addr.specs.Bits.{Address}
use Rattle.store_rows.specs.Addresses.{IsAddress, IsV4, IsV6, address_cell, v6_bytes, v6_in}
use Rattle.store_rows.specs.Reads.{IsReadBack}
use Rattle.store_rows.specs.declared.cell.Cell.TheVariants.{Blob, Number}

halves : (n high low : ℕ) → high ≡ n / 2 ^ 64 → low ≡ n % 2 ^ 64 → high * 2 ^ 64 + low ≡ n
halves n high low above below = omega arith

-- the number of the bytes of a number is that number
pub v6_again : (bits : ℕ) → bits < 2 ^ 128 → v6_in (v6_bytes bits) ≡ Some bits
unfolding v6_bytes v6_in
v6_again bits small =
    let high = to_be_bytes w64 (bits / 2 ^ 64) in
    let low = to_be_bytes w64 (bits % 2 ^ 64) in
    let long : length (high ++ low) ≡ 16 = refl in
    let above : from_be_bytes w64 (take 8 (high ++ low)) ≡ bits / 2 ^ 64 = ap (from_be_bytes w64) (take_at high low 8 refl) ∙ from_be_bytes-to_be_bytes_8 (bits / 2 ^ 64) (omega arith) in
    let below : from_be_bytes w64 (drop 8 (high ++ low)) ≡ bits % 2 ^ 64 = ap (from_be_bytes w64) (drop_at high low 8 refl) ∙ from_be_bytes-to_be_bytes_8 (bits % 2 ^ 64) (omega arith) in
    cond-true (eqb (length (high ++ low)) 16) _ None (eq-eqb (length (high ++ low)) 16 long) ∙ ap Some (halves bits _ _ above below)

-- only an IPv6 address is stored as bytes
blob_only : (v6 : Bool) (bits : ℕ) (bytes : List ℕ) → address_cell (record { v6 = v6; bits = bits }) ≡ Blob bytes → (v6 ≡ true) × (v6_bytes bits ≡ bytes)
blob_only true bits bytes e = (refl, cc (e))
blob_only false bits bytes e = absurd (cc (e))

-- only an IPv4 address is stored as a number
number_only : (v6 : Bool) (bits : ℕ) (n : ℤ) → address_cell (record { v6 = v6; bits = bits }) ≡ Number n → (v6 ≡ false) × (pos bits ≡ n)
number_only true bits n e = absurd (cc (e))
number_only false bits n e = (refl, cc (e))

abbrev pub IsV6Number : ℕ → Type 0
IsV6Number bits = bits < 2 ^ 128

small_v6 : (v6 : Bool) (bits : ℕ) → v6 ≡ true → IsAddress (record { v6 = v6; bits = bits }) → IsV6Number bits
small_v6 true bits e fits = fits
small_v6 false bits e fits = absurd (cc (e))

small_v4 : (v6 : Bool) (bits : ℕ) → v6 ≡ false → IsAddress (record { v6 = v6; bits = bits }) → bits < 2 ^ 32
small_v4 true bits e fits = absurd (cc (e))
small_v4 false bits e fits = fits

some_record : (v : Bool) (addr : Address) (b : ℕ) → addr.v6 ≡ v → addr.bits ≡ b → addr ≡ record { v6 = v; bits = b }
some_record v addr b one other =
    let address : Bool → ℕ → Address = λ family bits. record { v6 = family; bits = bits } in
    ap (λ family. address family addr.bits) one ∙ ap (address v) other

-- what is read of bytes as a number is read as an address
pub blob_read : (bytes : List ℕ) (found : Option ℕ) → IsReadBack v6_bytes IsV6Number bytes found → IsReadBack address_cell IsV6 (Blob bytes) (option_map (λ bits. record { v6 = true; bits = bits }) found)
blob_read bytes None read = record {
  is = tt;
  only = λ addr fits e.
      let found = blob_only addr.v6 addr.bits bytes e in
      let there : None ≡ Some addr.bits = read.only addr.bits (small_v6 addr.v6 addr.bits found.0 fits.number) found.1 in
      absurd (cc (there));
}
blob_read bytes (Some bits) read = record {
  is = (ap Blob read.is.0, record { family = refl; number = read.is.1 });
  only = λ addr fits e.
      let found = blob_only addr.v6 addr.bits bytes e in
      let there : Some bits ≡ Some addr.bits = read.only addr.bits (small_v6 addr.v6 addr.bits found.0 fits.number) found.1 in
      let same : addr.bits ≡ bits = cc (there) in
      ap Some (sym (some_record true addr bits found.0 same));
}

-- the same of a number
pub number_read : (n : ℤ) (found : Option ℕ) → IsReadBack pos (λ m. m < 2 ^ 32) n found → IsReadBack address_cell IsV4 (Number n) (option_map (λ bits. record { v6 = false; bits = bits }) found)
number_read n None read = record {
  is = tt;
  only = λ addr fits e.
      let found = number_only addr.v6 addr.bits n e in
      let there : None ≡ Some addr.bits = read.only addr.bits (small_v4 addr.v6 addr.bits found.0 fits.number) found.1 in
      absurd (cc (there));
}
number_read n (Some bits) read = record {
  is = (ap Number read.is.0, record { family = refl; number = read.is.1 });
  only = λ addr fits e.
      let found = number_only addr.v6 addr.bits n e in
      let there : Some bits ≡ Some addr.bits = read.only addr.bits (small_v4 addr.v6 addr.bits found.0 fits.number) found.1 in
      let same : addr.bits ≡ bits = cc (there) in
      ap Some (sym (some_record false addr bits found.0 same));
}

-- an IPv4 address is stored as its number
pub v4_stored : (addr : Address) → addr.v6 ≡ false → address_cell addr ≡ Number (pos addr.bits)
v4_stored addr e = ap (λ family. cond family (Blob (v6_bytes addr.bits)) (Number (pos addr.bits))) e

-- an IPv6 address is stored as its bytes
pub v6_stored : (addr : Address) → addr.v6 ≡ true → address_cell addr ≡ Blob (v6_bytes addr.bits)
v6_stored addr e = ap (λ family. cond family (Blob (v6_bytes addr.bits)) (Number (pos addr.bits))) e
