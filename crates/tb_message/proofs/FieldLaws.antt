-- A field that is read is the field that was spelled, and what was spelled is read again.
use Rattle.std.proofs.Common.{◌≡◌, ℕ, suc, ◌-◌, ◌^◌, ◌<◌, ◌≤◌, true, false, cond, ltb, List, [], ◌∷◌, ◌++◌, length}
use Rattle.std.proofs.Common.{take, drop, Some, None, refl, sym, ap, subst, arith, ℤ}
use Rattle.std.specs.Prelude.{pos, negsuc}
use Rattle.std.specs.Option.{option_map}
use mir.Val.{SFits}
use Rattle.std.specs.Int.{Width, w16, w32, w64, byte_len, from_be_bytes, to_be_bytes, cast_signed, cast_unsigned}
use Rattle.std.proofs.lemmas.Bool.{ltb-false, le-ltb}
use Rattle.std.proofs.lemmas.Bool.Decides.{nat_tests}
use Rattle.std.proofs.lemmas.List.{take_at, drop_at, take-append-drop, length-append, length-take}
use Rattle.std.proofs.lemmas.Int.{of_z-to_z, to_z-of_z, to_z_pos}
use Rattle.std.proofs.lemmas.Nat.{be_bytes_2, be_bytes_4, be_bytes_8, from_be_bytes-to_be_bytes_2}
use Rattle.std.proofs.lemmas.Nat.{from_be_bytes-to_be_bytes_4, from_be_bytes-to_be_bytes_8}
use Rattle.tb_units.proofs.ByteLemmas.{AreBytes, take-bytes, drop-bytes, rest-bytes}
use Rattle.tb_message.specs.declared.version.Version.TheVariants.{First, Second}
use Rattle.tb_message.specs.Forms.{Form, name, cusip, amount, money, number, position, rate, day}
use Rattle.tb_message.specs.Forms.{minute, moment, Part, text, whole, signed, is_of}
use Rattle.tb_message.specs.Spelling.{spelled}
use Rattle.tb_message.specs.Reading.{front_at, whole_at, field_at, part_at, ranged}
use Rattle.tb_message.proofs.Steps.{from_map, from_then, from_test}

-- ---- bytes

-- ---- the front

-- the bytes are a front of so many and what follows it
record IsFront (size : ℕ) (bytes : List ℕ) (x : List ℕ × List ℕ) : Type 0 where
  joined : bytes ≡ x.0 ++ x.1
  size_is : length x.0 ≡ size
  front : AreBytes x.0
  rest : AreBytes x.1

-- what is read as the front is the front
front_is : (size : ℕ) (bytes : List ℕ) (x : List ℕ × List ℕ)
    → AreBytes bytes
    → front_at size bytes ≡ Some x
    → IsFront size bytes x
front_is size bytes x fits e =
    elim (ltb (length bytes) size) as (λ b. ltb (length bytes) size ≡ b
    → cond b None (Some (take size bytes, drop size bytes)) ≡ Some x → IsFront size bytes x) [
      | true ↦ λ _ e. absurd cc
      | false ↦ λ long e. subst (IsFront size bytes) (pair_is size bytes x e) (record {
        joined = sym (take-append-drop size bytes);
        size_is = (let le : size ≤ length bytes = ltb-false _ _ long in omega (arith, length-take size bytes));
        front = take-bytes size bytes fits;
        rest = drop-bytes size bytes fits;
      })
    ] refl e
  where
    -- what was found is the front and the rest
    pair_is : (size : ℕ) (bytes : List ℕ) (x : List ℕ × List ℕ)
        → Some (take size bytes, drop size bytes) ≡ Some x
        → (take size bytes, drop size bytes) ≡ x
    pair_is size bytes x e = cc

-- a front of so many is read again, whatever follows it
front_again : (size : ℕ) (front rest : List ℕ)
    → length front ≡ size
    → front_at size (front ++ rest) ≡ Some (front, rest)
front_again size front rest len =
    let long : ltb (length (front ++ rest)) size ≡ false = le-ltb _ _ (omega (arith, length-append front rest)) in
    rw (long, take_at front rest size len, drop_at front rest size len) refl

-- ---- numbers of a width

-- its bytes are so many, and are those of the number that they spell
record IsWide (w : Width) : Type 0 where
  back : (bytes : List ℕ) → length bytes ≡ byte_len w → AreBytes bytes → to_be_bytes w (from_be_bytes w bytes) ≡ bytes
  len : (n : ℕ) → length (to_be_bytes w n) ≡ byte_len w

-- two bytes
wide16 : IsWide w16
wide16 = record { back = λ bytes len fits. be_bytes_2 bytes _ len fits refl; len = λ n. refl }

-- four bytes
wide32 : IsWide w32
wide32 = record { back = λ bytes len fits. be_bytes_4 bytes _ len fits refl; len = λ n. refl }

-- eight bytes
wide64 : IsWide w64
wide64 = record { back = λ bytes len fits. be_bytes_8 bytes _ len fits refl; len = λ n. refl }

-- ---- what is read was spelled

-- the bytes are the spelling of what was read, and what follows
pub record Takes (spelling rest bytes : List ℕ) : Type 0 where
  pub joined : bytes ≡ spelling ++ rest
  pub rest_fits : AreBytes rest

-- the bytes of a number are the spelling of that number
front_takes : (w : Width) (bytes : List ℕ) (front : List ℕ × List ℕ)
    → IsWide w
    → IsFront (byte_len w) bytes front
    → Takes (to_be_bytes w (from_be_bytes w front.0)) front.1 bytes
front_takes w bytes front wide is =
    record { joined = rw (wide.back front.0 is.size_is is.front) is.joined; rest_fits = is.rest }

-- a number is read from its spelling
whole_takes : (w : Width) (spell : Part → List ℕ) (bytes : List ℕ) (x : Part × List ℕ)
    → IsWide w
    → ((n : ℕ) → spell (whole n) ≡ to_be_bytes w n)
    → AreBytes bytes
    → whole_at w bytes ≡ Some x
    → Takes (spell x.0) x.1 bytes
whole_takes w spell bytes x wide spells fits e =
    from_map (λ (x : Part × List ℕ). Takes (spell x.0) x.1 bytes) (λ front. (whole (from_be_bytes w front.0), front.1))
    (front_at (byte_len w) bytes) x e
    (λ front given.
    let takes = front_takes w bytes front wide (front_is (byte_len w) bytes front fits given) in
    subst (λ (s : List ℕ). Takes s front.1 bytes) (sym (spells (from_be_bytes w front.0))) takes)

-- and a text of so many bytes
text_takes : (size : ℕ) (spell : Part → List ℕ) (bytes : List ℕ) (x : Part × List ℕ)
    → ((t : List ℕ) → spell (text t) ≡ t)
    → AreBytes bytes
    → option_map (λ front. (text front.0, front.1)) (front_at size bytes) ≡ Some x
    → Takes (spell x.0) x.1 bytes
text_takes size spell bytes x spells fits e =
    from_map (λ (x : Part × List ℕ). Takes (spell x.0) x.1 bytes) (λ front. (text front.0, front.1))
    (front_at size bytes) x e
    (λ front given.
    let is = front_is size bytes front fits given in
    record { joined = rw (spells front.0) is.joined; rest_fits = is.rest })

-- and a name, behind its length
name_takes : (size : ℕ) (bytes : List ℕ) (x : Part × List ℕ)
    → AreBytes (size ∷ bytes)
    → field_at name (size ∷ bytes) ≡ Some x
    → Takes (spelled name x.0) x.1 (size ∷ bytes)
unfolding spelled
name_takes size bytes x fits e =
    from_map (λ (x : Part × List ℕ). Takes (spelled name x.0) x.1 (size ∷ bytes)) (λ front. (text front.0, front.1))
    (front_at size bytes) x e
    (λ front given.
    let is = front_is size bytes front (rest-bytes size bytes fits) given in
    record { joined = rw (is.size_is) (ap (λ (b : List ℕ). size ∷ b) is.joined); rest_fits = is.rest })

-- and a position, in two's complement
position_takes : (bytes : List ℕ) (x : Part × List ℕ)
    → AreBytes bytes
    → field_at position bytes ≡ Some x
    → Takes (spelled position x.0) x.1 bytes
unfolding spelled
position_takes bytes x fits e =
    from_map (λ (x : Part × List ℕ). Takes (spelled position x.0) x.1 bytes)
    (λ front. (signed (cast_signed w64 (from_be_bytes w64 front.0)), front.1)) (front_at 8 bytes) x e
    (λ front given.
    let is = front_is 8 bytes front fits given in
    let byte = is.front in
    let fits_64 : from_be_bytes w64 front.0 < 2 ^ 64 =
    omega (arith, byte 0, byte 1, byte 2, byte 3, byte 4, byte 5, byte 6, byte 7) in
    let back = of_z-to_z w64 (from_be_bytes w64 front.0) fits_64 in
    subst (λ (n : ℕ). Takes (to_be_bytes w64 n) front.1 bytes) (sym back) (front_takes w64 bytes front wide64 is))

-- whatever the form
pub field_takes : (form : Form) (bytes : List ℕ) (x : Part × List ℕ)
    → AreBytes bytes
    → field_at form bytes ≡ Some x
    → Takes (spelled form x.0) x.1 bytes
unfolding spelled
field_takes name [] x fits e = absurd cc
field_takes name (size ∷ bytes) x fits e = name_takes size bytes x fits e
field_takes cusip bytes x fits e = text_takes 9 (spelled cusip) bytes x (λ t. refl) fits e
field_takes amount bytes x fits e = whole_takes w64 (spelled amount) bytes x wide64 (λ n. refl) fits e
field_takes money bytes x fits e = whole_takes w64 (spelled money) bytes x wide64 (λ n. refl) fits e
field_takes number bytes x fits e = whole_takes w64 (spelled number) bytes x wide64 (λ n. refl) fits e
field_takes position bytes x fits e = position_takes bytes x fits e
field_takes rate bytes x fits e = whole_takes w32 (spelled rate) bytes x wide32 (λ n. refl) fits e
field_takes day bytes x fits e = whole_takes w32 (spelled day) bytes x wide32 (λ n. refl) fits e
field_takes minute bytes x fits e = whole_takes w16 (spelled minute) bytes x wide16 (λ n. refl) fits e
field_takes (moment First) bytes x fits e = whole_takes w32 (spelled (moment First)) bytes x wide32 (λ n. refl) fits e
field_takes (moment Second) bytes x fits e = whole_takes w64 (spelled (moment Second)) bytes x wide64 (λ n. refl) fits e

-- ---- what was spelled is read again

-- a number that its width holds
whole_again : (w : Width) (n : ℕ) (rest : List ℕ)
    → IsWide w
    → from_be_bytes w (to_be_bytes w n) ≡ n
    → whole_at w (to_be_bytes w n ++ rest) ≡ Some (whole n, rest)
whole_again w n rest wide same =
    rw (front_again (byte_len w) (to_be_bytes w n) rest (wide.len n)) (ap (λ (k : ℕ). Some (whole k, rest)) same)

-- a position
signed_again : (z : ℤ) (rest : List ℕ)
    → is_of position (signed z) ≡ true
    → field_at position (to_be_bytes w64 (cast_unsigned w64 z) ++ rest) ≡ Some (signed z, rest)
signed_again (pos n) rest fits =
    let most : n ≤ 10 ^ 12 = grind (arith, nat_tests) in
    rw (front_again 8 (to_be_bytes w64 n) rest refl, from_be_bytes-to_be_bytes_8 n (omega arith))
    (ap (λ (k : ℤ). Some (signed k, rest)) (to_z_pos w64 n (omega arith)))
signed_again (negsuc n) rest fits =
    let most : suc n ≤ 10 ^ 12 = grind (arith, nat_tests) in
    let fits_64 : SFits w64 (negsuc n) = record { sfits = omega arith } in
    let bytes = to_be_bytes w64 (cast_unsigned w64 (negsuc n)) in
    rw (front_again 8 bytes rest refl, from_be_bytes-to_be_bytes_8 (2 ^ 64 - suc n) (omega arith))
    (ap (λ (k : ℤ). Some (signed k, rest)) (to_z-of_z w64 (negsuc n) fits_64))

-- a field of any form that is in its range
pub field_again : (form : Form) (part : Part) (rest : List ℕ)
    → is_of form part ≡ true
    → field_at form (spelled form part ++ rest) ≡ Some (part, rest)
unfolding spelled
field_again name (text t) rest fits = rw (front_again (length t) t rest refl) refl
field_again cusip (text t) rest fits =
    let nine : length t ≡ 9 = grind (arith, nat_tests) in
    rw (front_again 9 t rest nine) refl
field_again amount (whole n) rest fits =
    let most : n ≤ 10 ^ 12 = grind (arith, nat_tests) in
    whole_again w64 n rest wide64 (from_be_bytes-to_be_bytes_8 n (omega arith))
field_again money (whole n) rest fits =
    let most : n ≤ 10 ^ 14 = grind (arith, nat_tests) in
    whole_again w64 n rest wide64 (from_be_bytes-to_be_bytes_8 n (omega arith))
field_again number (whole n) rest fits =
    let most : n ≤ 10 ^ 15 = grind (arith, nat_tests) in
    whole_again w64 n rest wide64 (from_be_bytes-to_be_bytes_8 n (omega arith))
field_again position (signed z) rest fits = signed_again z rest fits
field_again rate (whole n) rest fits =
    let most : n ≤ 199999 = grind (arith, nat_tests) in
    whole_again w32 n rest wide32 (from_be_bytes-to_be_bytes_4 n (omega arith))
field_again day (whole n) rest fits =
    let most : n ≤ 47481 = grind (arith, nat_tests) in
    whole_again w32 n rest wide32 (from_be_bytes-to_be_bytes_4 n (omega arith))
field_again minute (whole n) rest fits =
    let most : n < 1440 = grind (arith, nat_tests) in
    whole_again w16 n rest wide16 (from_be_bytes-to_be_bytes_2 n (omega arith))
field_again (moment Second) (whole n) rest fits =
    let most : n ≤ 4102444799 = grind (arith, nat_tests) in
    whole_again w64 n rest wide64 (from_be_bytes-to_be_bytes_8 n (omega arith))
field_again (moment First) (whole n) rest fits =
    let most : n ≤ 4102444799 = grind (arith, nat_tests) in
    whole_again w32 n rest wide32 (from_be_bytes-to_be_bytes_4 n (omega arith))
field_again form part rest fits = absurd cc

-- ---- fields in their ranges

-- what is read was spelled, and is in its range
pub part_takes : (form : Form) (bytes : List ℕ) (x : Part × List ℕ)
    → AreBytes bytes
    → part_at form bytes ≡ Some x
    → Takes (spelled form x.0) x.1 bytes × (is_of form x.0 ≡ true)
unfolding part_at
part_takes form bytes x fits e =
    let P : Part × List ℕ → Type 0 = λ x. Takes (spelled form x.0) x.1 bytes × (is_of form x.0 ≡ true) in
    from_then P (ranged form) (field_at form bytes) x e
    (λ read given passed.
    from_test P (is_of form read.0) read x passed (λ holds. (field_takes form bytes read fits given, holds)))

-- what was spelled in its range is read again
pub part_again : (form : Form) (part : Part) (rest : List ℕ)
    → is_of form part ≡ true
    → part_at form (spelled form part ++ rest) ≡ Some (part, rest)
unfolding part_at
part_again form part rest fits = rw (field_again form part rest fits, fits) refl
