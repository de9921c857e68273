-- Fields one after another, and whole records: what is read was spelled, and what was spelled is read again.
use Rattle.std.proofs.Common.{arith, ◌≡◌, ℕ, ◌*◌, ◌≤◌, suc, Bool, true, false, List, [], ◌∷◌, ◌++◌, length, lit≤}
use Rattle.std.proofs.Common.{Option, Some, None, refl, sym, ap, subst, ◌∙◌, append_assoc, cond}
use Rattle.std.specs.Option.{option_map}
use Rattle.std.specs.Prelude.{find, ◌==◌}
use Rattle.std.specs.List.{All}
use Rattle.std.proofs.lemmas.List.{length-append}
use Rattle.std.proofs.lemmas.List.Elements.{All-tail}
use Rattle.std.proofs.lemmas.Bool.{eqb-true}
use Rattle.std.proofs.lemmas.Bool.Decides.{nat_tests}
use Rattle.tb_units.proofs.NameLemmas.{is_name-length}
use Rattle.tb_message.specs.declared.kind.Kind.{Kind}
use Rattle.tb_message.specs.declared.kind.Kind.TheVariants as kind
use Rattle.tb_message.specs.declared.message.Entry.{Entry}
use Rattle.tb_message.specs.declared.version.Version.{Version}
use Rattle.tb_message.specs.declared.version.Version.TheVariants.{First, Second}
use Rattle.tb_message.specs.Kinds.{kinds, tag_of, kind_of_tag, forms_of}
use Rattle.tb_message.specs.Messages.{kind_of, parts_of}
use Rattle.tb_message.specs.Forms.{Form, name, cusip, amount, money, number, position, rate, day}
use Rattle.tb_message.specs.Forms.{minute, moment, Part, text, whole, signed, is_of}
use Rattle.tb_message.specs.Spelling.{spelled, spelled_all, AreOf, heads_in, head_of, IsInRange, spelling, spelling_in, spellings, spellings_in, IsNoRecordIn}
use Rattle.tb_message.specs.Reading.{part_at, parts_at, message_at, tagged_at, entry_at}
use Rattle.tb_message.proofs.Steps.{from_map, from_then, some_is}
use Rattle.tb_message.proofs.Same.{IsSame, entries}
use Rattle.tb_units.proofs.ByteLemmas.{AreBytes}
use Rattle.tb_message.proofs.FieldLaws.{Takes, part_takes, part_again}

-- ---- fields one after another

-- the bytes are the spelling of the parts, which are in their ranges, and what follows
pub record Reads (forms : List Form) (bytes : List ℕ) (x : List Part × List ℕ) : Type 0 where
  pub takes : Takes (spelled_all forms x.0) x.1 bytes
  pub fits : AreOf forms x.0

-- parts that are read were spelled
pub parts_take : (forms : List Form) (bytes : List ℕ) (x : List Part × List ℕ)
    → AreBytes bytes
    → parts_at forms bytes ≡ Some x
    → Reads forms bytes x
parts_take [] bytes x fits e =
    from_map (Reads [] bytes) (λ (u : Unit {0}). ([], bytes)) (Some tt) x e
    (λ _ _. record { takes = record { joined = refl; rest_fits = fits }; fits = tt })
parts_take (form ∷ forms) bytes x fits e =
    from_then (Reads (form ∷ forms) bytes)
    (λ first. option_map (λ others. (first.0 ∷ others.0, others.1)) (parts_at forms first.1)) (part_at form bytes) x e
    (λ first given more.
    from_map (Reads (form ∷ forms) bytes) (λ others. (first.0 ∷ others.0, others.1)) (parts_at forms first.1) x more
    (λ others others_given.
    let one = part_takes form bytes first fits given in
    let rest = parts_take forms first.1 others one.0.rest_fits others_given in
    record {
      takes = record {
        joined = one.0.joined ∙ ap (λ (b : List ℕ). spelled form first.0 ++ b) rest.takes.joined
            ∙ sym (append_assoc (spelled form first.0) (spelled_all forms others.0) others.1);
        rest_fits = rest.takes.rest_fits;
      };
      fits = (one.1, rest.fits);
    }))

-- parts that are spelled are read, whatever follows them
pub parts_again : (forms : List Form) (parts : List Part) (rest : List ℕ)
    → AreOf forms parts
    → parts_at forms (spelled_all forms parts ++ rest) ≡ Some (parts, rest)
parts_again [] [] rest fits = refl
parts_again [] (part ∷ parts) rest fits = absurd fits
parts_again (form ∷ forms) [] rest fits = absurd fits
parts_again (form ∷ forms) (part ∷ parts) rest fits =
    ap (parts_at (form ∷ forms)) (append_assoc (spelled form part) (spelled_all forms parts) rest)
    ∙ rw (part_again form part (spelled_all forms parts ++ rest) fits.0, parts_again forms parts rest fits.1) refl

-- ---- tags

-- a kind's tag is of that kind
pub kind_of_tag-tag_of : (kind : Kind) → kind_of_tag (tag_of kind) ≡ Some kind
kind_of_tag-tag_of kind.Register = refl
kind_of_tag-tag_of kind.Enrol = refl
kind_of_tag-tag_of kind.Holiday = refl
kind_of_tag-tag_of kind.Announce = refl
kind_of_tag-tag_of kind.Bid = refl
kind_of_tag-tag_of kind.Noncompetitive = refl
kind_of_tag-tag_of kind.Cancel = refl
kind_of_tag-tag_of kind.Position = refl
kind_of_tag-tag_of kind.Publish = refl
kind_of_tag-tag_of kind.Settle = refl
kind_of_tag-tag_of kind.Transfer = refl
kind_of_tag-tag_of kind.Pledge = refl
kind_of_tag-tag_of kind.Release = refl
kind_of_tag-tag_of kind.Redeem = refl
kind_of_tag-tag_of kind.AddOn = refl
kind_of_tag-tag_of kind.Deposit = refl
kind_of_tag-tag_of kind.Withdraw = refl
kind_of_tag-tag_of kind.Sell = refl
kind_of_tag-tag_of kind.Buy = refl
kind_of_tag-tag_of kind.Retract = refl

-- two kinds of one tag are one
pub tag_of-one : (one other : Kind) → tag_of one ≡ tag_of other → one ≡ other
tag_of-one one other same =
    let found : Some one ≡ Some other =
    sym (kind_of_tag-tag_of one) ∙ (ap kind_of_tag same ∙ kind_of_tag-tag_of other) in
    cc

-- what is found passes the test
found_passes : {A : Type 0} (p : A → Bool) (xs : List A) (x : A) → find p xs ≡ Some x → p x ≡ true
found_passes p [] x e = absurd cc
found_passes p (y ∷ ys) x e =
    elim (p y) as (λ b. p y ≡ b → cond b (Some y) (find p ys) ≡ Some x → p x ≡ true) [
      | true ↦ λ passes e. let same : y ≡ x = cc in subst (λ (z : _). p z ≡ true) same passes
      | false ↦ λ _ e. found_passes p ys x e
    ] refl e

-- the kind of a tag has that tag
tag_of-kind_of_tag : (tag : ℕ) (kind : Kind) → kind_of_tag tag ≡ Some kind → tag_of kind ≡ tag
tag_of-kind_of_tag tag kind e = eqb-true _ _ (found_passes (λ kind. tag_of kind == tag) kinds kind e)

-- ---- whole entries

-- what is read of a record: head, kind and body, and what follows
abbrev pub Read : Type 0
Read = List Part × Kind × List Part × List ℕ

-- the bytes are the spelling of what is read, which is in its ranges, and what follows
pub record ReadsEntry (version : Version) (bytes : List ℕ) (x : Read) : Type 0 where
  pub head : AreOf (heads_in version) x.0
  pub body : AreOf (forms_of x.1) x.2
  pub joined :
      bytes ≡ (spelled_all (heads_in version) x.0 ++ tag_of x.1 ∷ spelled_all (forms_of x.1) x.2) ++ x.3

-- a tag, and the fields of its kind
record ReadsTagged (bytes : List ℕ) (x : Kind × List Part × List ℕ) : Type 0 where
  fits : AreOf (forms_of x.0) x.1
  joined : bytes ≡ (tag_of x.0 ∷ spelled_all (forms_of x.0) x.1) ++ x.2

-- a body that is read was spelled
tagged_takes : (bytes : List ℕ) (x : Kind × List Part × List ℕ)
    → AreBytes bytes
    → tagged_at bytes ≡ Some x
    → ReadsTagged bytes x
tagged_takes [] x fits e = absurd cc
tagged_takes (tag ∷ bytes) x fits e =
    from_then (ReadsTagged (tag ∷ bytes)) (λ kind. message_at kind bytes) (kind_of_tag tag) x e
    (λ kind given more.
    from_map (ReadsTagged (tag ∷ bytes)) (λ read. (kind, read.0, read.1)) (parts_at (forms_of kind) bytes) x more
    (λ read read_given.
    let reads = parts_take (forms_of kind) bytes read (λ i. fits (suc i)) read_given in
    record {
      fits = reads.fits;
      joined = rw (tag_of-kind_of_tag tag kind given) (ap (λ (b : List ℕ). tag ∷ b) reads.takes.joined);
    }))

-- an entry that is read was spelled
pub entry_takes : (version : Version) (bytes : List ℕ) (x : Read)
    → AreBytes bytes
    → entry_at version bytes ≡ Some x
    → ReadsEntry version bytes x
entry_takes version bytes x fits e =
    from_then (ReadsEntry version bytes)
    (λ head. option_map (λ body. (head.0, body.0, body.1, body.2)) (tagged_at head.1))
    (parts_at (heads_in version) bytes) x e
    (λ head given more.
    from_map (ReadsEntry version bytes) (λ body. (head.0, body.0, body.1, body.2)) (tagged_at head.1) x more
    (λ body body_given.
    let front = parts_take (heads_in version) bytes head fits given in
    let back = tagged_takes head.1 body front.takes.rest_fits body_given in
    record {
      head = front.fits;
      body = back.fits;
      joined = front.takes.joined ∙ ap (λ (b : List ℕ). spelled_all (heads_in version) head.0 ++ b) back.joined
          ∙ sym (append_assoc (spelled_all (heads_in version) head.0)
          (tag_of body.0 ∷ spelled_all (forms_of body.0) body.1) body.2);
    }))

-- a body that is spelled is read, whatever follows it
tagged_again : (kind : Kind) (parts : List Part) (rest : List ℕ)
    → AreOf (forms_of kind) parts
    → tagged_at (tag_of kind ∷ (spelled_all (forms_of kind) parts ++ rest)) ≡ Some (kind, parts, rest)
tagged_again kind parts rest fits = rw (kind_of_tag-tag_of kind, parts_again (forms_of kind) parts rest fits) refl

-- what is read of an entry
abbrev pub read_of : Entry → List ℕ → Read
read_of entry rest = (head_of entry, kind_of entry.message, parts_of entry.message, rest)

-- an entry that is spelled is read, whatever follows it
pub entry_again : (version : Version) (entry : Entry) (rest : List ℕ)
    → IsInRange entry
    → entry_at version (spelling_in version entry ++ rest) ≡ Some (read_of entry rest)
entry_again version entry rest fits =
    let kind = kind_of entry.message in
    let parts = parts_of entry.message in
    let back = tag_of kind ∷ (spelled_all (forms_of kind) parts ++ rest) in
    let front = spelled_all (heads_in version) (head_of entry) in
    ap (entry_at version) (append_assoc front (tag_of kind ∷ spelled_all (forms_of kind) parts) rest)
    ∙ rw (parts_again (heads_in version) (head_of entry) back fits.head, tagged_again kind parts rest fits.body) refl

-- ---- what is taken

-- the bytes are the spelling of the entry, which is in its ranges, and what follows
pub record Taken (version : Version) (bytes : List ℕ) (entry : Entry) (rest : List ℕ) : Type 0 where
  pub in_range : IsInRange entry
  pub joined : bytes ≡ spelling_in version entry ++ rest

-- an entry is taken where its spelling begins the bytes
pub taken : (version : Version) (bytes : List ℕ) (entry : Entry) (rest : List ℕ)
    → AreBytes bytes
    → Some (read_of entry rest) ≡ entry_at version bytes
    → Taken version bytes entry rest
taken version bytes entry rest fits e =
    let reads = entry_takes version bytes (read_of entry rest) fits (sym e) in
    record { in_range = record { head = reads.head; body = reads.body }; joined = reads.joined }

-- none is taken where none does
pub not_taken : (version : Version) (bytes : List ℕ) → None ≡ entry_at version bytes → IsNoRecordIn version bytes
not_taken version bytes none entry fits rest same =
    let some = ap (entry_at version) same ∙ entry_again version entry rest fits in
    let clash : ◌≡◌ {A = Option Read} None (Some (read_of entry rest)) = none ∙ some in
    cc

-- ---- one spelling, one entry

-- what is read alike is of the same values
same_read : (one other : Entry) (x y : List ℕ)
    → ◌≡◌ {A = Option Read} (Some (read_of one x)) (Some (read_of other y))
    → IsSame one other × (x ≡ y)
same_read one other x y e =
    let same = some_is (read_of one x) (read_of other y) e in
    let values : IsSame one other = record {
      head = ap (λ (r : Read). r.0) same;
      kind = ap (λ (r : Read). r.1) same;
      body = ap (λ (r : Read). r.2) same;
    } in
    (values, ap (λ (r : Read). r.3) same)

-- bytes that begin with two spellings of a version begin with one, and go on alike
pub spelling_in-begins : (version : Version) (one other : Entry) (x y : List ℕ)
    → IsInRange one
    → IsInRange other
    → spelling_in version one ++ x ≡ spelling_in version other ++ y
    → (one ≡ other) × (x ≡ y)
spelling_in-begins version one other x y in_one in_other e =
    let alike =
    same_read one other x y (sym (entry_again version one x in_one) ∙ ap (entry_at version) e
    ∙ entry_again version other y in_other) in
    (entries one other alike.0, alike.1)

-- a spelling is of one entry
pub spelling_in-one : (version : Version) (one other : Entry)
    → IsInRange one
    → IsInRange other
    → spelling_in version one ≡ spelling_in version other
    → one ≡ other
spelling_in-one version one other in_one in_other e =
    (spelling_in-begins version one other [] [] in_one in_other (ap (λ (b : List ℕ). b ++ []) e)).0

-- no spelling is empty
spelling_in-some : (version : Version) (entry : Entry) (bytes : List ℕ) → [] ≡ spelling_in version entry ++ bytes → ⊥
unfolding spelled
spelling_in-some version entry bytes e = absurd cc

-- the spellings of a list are of no other list
pub spellings_in-one : (version : Version) (ones others : List Entry)
    → All IsInRange ones
    → All IsInRange others
    → spellings_in version ones ≡ spellings_in version others
    → ones ≡ others
spellings_in-one version [] [] in_ones in_others e = refl
spellings_in-one version [] (other ∷ others) in_ones in_others e =
    absurd (spelling_in-some version other (spellings_in version others) e)
spellings_in-one version (one ∷ ones) [] in_ones in_others e =
    absurd (spelling_in-some version one (spellings_in version ones) (sym e))
spellings_in-one version (one ∷ ones) (other ∷ others) in_ones in_others e =
    let in_one = in_ones 0 one (omega arith) in
    let in_other = in_others 0 other (omega arith) in
    let alike = spelling_in-begins version one other (spellings_in version ones) (spellings_in version others)
    in_one in_other e in
    let rest = spellings_in-one version ones others (All-tail IsInRange one ones in_ones)
    (All-tail IsInRange other others in_others) alike.1 in
    cc

-- ---- sizes

-- a field has at most 33 bytes
spelled-few : (form : Form) (part : Part) → is_of form part ≡ true → length (spelled form part) ≤ 33
unfolding spelled
spelled-few name (text t) fits = omega (arith, is_name-length t fits)
spelled-few cusip (text t) fits = let nine : length t ≡ 9 = grind (arith, nat_tests) in omega (arith, nine)
spelled-few amount (whole n) fits = lit≤ tt
spelled-few money (whole n) fits = lit≤ tt
spelled-few number (whole n) fits = lit≤ tt
spelled-few position (signed z) fits = lit≤ tt
spelled-few rate (whole n) fits = lit≤ tt
spelled-few day (whole n) fits = lit≤ tt
spelled-few minute (whole n) fits = lit≤ tt
spelled-few (moment First) (whole n) fits = lit≤ tt
spelled-few (moment Second) (whole n) fits = lit≤ tt
spelled-few form part fits = absurd cc

-- and so many fields so many times that
spelled_all-few : (forms : List Form) (parts : List Part)
    → AreOf forms parts
    → length (spelled_all forms parts) ≤ 33 * length forms
spelled_all-few [] [] fits = lit≤ tt
spelled_all-few [] (part ∷ parts) fits = absurd fits
spelled_all-few (form ∷ forms) [] fits = absurd fits
spelled_all-few (form ∷ forms) (part ∷ parts) fits =
    omega (
      arith,
      length-append (spelled form part) (spelled_all forms parts),
      spelled-few form part fits.0,
      spelled_all-few forms parts fits.1,
    )

-- a kind has at most twelve fields
forms_of-few : (kind : Kind) → length (forms_of kind) ≤ 12
forms_of-few kind.Announce = lit≤ tt
forms_of-few other = lit≤ tt

-- a spelling has 1 to 512 bytes
pub spelling_in-sizes : (version : Version) (entry : Entry)
    → IsInRange entry
    → (1 ≤ length (spelling_in version entry)) × (length (spelling_in version entry) ≤ 512)
spelling_in-sizes version entry fits =
    let front = spelled_all (heads_in version) (head_of entry) in
    let body = spelled_all (forms_of (kind_of entry.message)) (parts_of entry.message) in
    let whole_size = length-append front (tag_of (kind_of entry.message) ∷ body) in
    let head_few = spelled_all-few (heads_in version) (head_of entry) fits.head in
    let body_few = spelled_all-few (forms_of (kind_of entry.message)) (parts_of entry.message) fits.body in
    let fields = forms_of-few (kind_of entry.message) in
    (omega (arith, whole_size), omega (arith, whole_size, head_few, body_few, fields))

-- ---- the same of records as they are put

-- bytes that begin with two spellings begin with one, and go on alike
pub spelling-begins : (one other : Entry) (x y : List ℕ)
    → IsInRange one
    → IsInRange other
    → spelling one ++ x ≡ spelling other ++ y
    → (one ≡ other) × (x ≡ y)
spelling-begins = spelling_in-begins Second

-- a spelling is of one entry
pub spelling-one : (one other : Entry) → IsInRange one → IsInRange other → spelling one ≡ spelling other → one ≡ other
spelling-one = spelling_in-one Second

-- the spellings of a list are of no other list
pub spellings-one : (ones others : List Entry)
    → All IsInRange ones
    → All IsInRange others
    → spellings ones ≡ spellings others
    → ones ≡ others
spellings-one = spellings_in-one Second

-- a spelling has 1 to 512 bytes
pub spelling-sizes : (entry : Entry) → IsInRange entry → (1 ≤ length (spelling entry)) × (length (spelling entry) ≤ 512)
spelling-sizes = spelling_in-sizes Second
