-- What a crash leaves of a file into which a journal is written.
use Rattle.std.proofs.Common.{zero, suc, ◌≡◌, ◌≢◌, ◌≤◌, ◌<◌, ◌⊎◌, inl, inr, ℕ, ◌+◌, List, [], ◌∷◌, ◌++◌, length, get_or, take, drop, refl, sym, ◌∙◌, ap, subst, arith, append_assoc, length-append, take-append-drop, true, false}
use Rattle.std.specs.Prelude.{max, slice_index, Bool}
use Rattle.std.specs.Bool.{Decides}
use Rattle.std.proofs.lemmas.List.{take_at, drop_at, drop_more, length-take-le, get_or-append_right, drop_all, take_all, append-nil}
use Rattle.std.proofs.lemmas.Bool.{cases_eq, cases_lt}
use Rattle.std.proofs.lemmas.Slice.Eq.{bytes_eq-Decides}
use Rattle.std.specs.Str.{bytes_eq}
use Rattle.tb_disk.specs.Steps.{over, Torn, Wrote, Tore, CutTo, Synced}
use Rattle.tb_disk.specs.Past.{Past, Then, contents_of, MayLeave, Follows, IsSynced, Leaves}
use Rattle.tb_disk.proofs.Moments.{Leaves-start, Leaves-step, Leaves-both}
use Rattle.tb_journal.specs.Journal.{WritesInPart}
use Rattle.tb_journal.specs.declared.form.Form.TheVariants.{Second}
use Rattle.tb_journal.specs.Frames.{title_of, header_of, framed, frames, front, IsPayload, ArePayloads}
use Rattle.tb_journal.specs.Image.{StandsFor}
use Rattle.tb_journal.specs.Writing.{IsBlank, IsOldOrBlank, IsBlankOr, IsGuarded, IsWritten, IsSealed, start, behind}
use Rattle.tb_journal.specs.WriterSteps.{IsLong, IsShort, IsBroken, IsCut, IsClosed, Unseals, Cuts, Titles}
use Rattle.tb_journal.proofs.Gates.{length-title, frames_push, zero_plus, ArePayloads-push, IsFramedIn-stands}

-- the first sixteen bytes of a journal
abbrev pub title : List ℕ
title = title_of Second

-- the byte behind sixteen
byte_at : (head : List ℕ) (byte : ℕ) (rest : List ℕ) → length head ≡ 16 → slice_index (head ++ byte ∷ rest) 16 ≡ byte
byte_at head byte rest long = get_or-append_right head (byte ∷ rest) 16 16 0 long (omega arith)

-- where the byte in the seal's place isn't 1, no entry is found
pub guarded_blank : (file : List ℕ) → IsGuarded file → IsBlank file
guarded_blank file guarded = elim (cases_lt 18 (length file)) [
  | inr short ↦ inl short
  | inl long ↦ titled long (bytes_eq (take 16 file) title) (bytes_eq-Decides (take 16 file) title)
]
  where
    titled : 18 < length file → (b : Bool) → Decides b (take 16 file ≡ title) → IsBlank file
    titled long true is = inr (inr (
      guarded.byte,
      record {
        long = long;
        begins = is.0 refl;
        is = ap (λ (list : List ℕ). slice_index list 16) guarded.is
            ∙ byte_at guarded.head guarded.byte guarded.rest guarded.place;
        differs = guarded.unsealed;
      },
    ))
    titled long false is = inr (inl (
      take 16 file,
      record {
        long = long;
        begins = refl;
        differs = λ same. absurd (not_both (is.1 same));
      },
    ))
      where
        not_both : false ≡ true → ⊥
        not_both same = cc

-- files whose first 17 bytes are the same are guarded alike
pub guarded_same : (old new : List ℕ) → take 17 new ≡ take 17 old → IsGuarded old → IsGuarded new
guarded_same old new same guarded = record {
  head = guarded.head;
  byte = guarded.byte;
  rest = drop 17 new;
  is = sym (take-append-drop 17 new) ∙ (ap (λ (list : List ℕ). list ++ drop 17 new)
      (same ∙ (ap (λ (list : List ℕ). take 17 list) guarded.is ∙ front_of guarded.head guarded.byte guarded.rest
      guarded.place)) ∙ append_assoc guarded.head (guarded.byte ∷ []) (drop 17 new));
  place = guarded.place;
  unsealed = guarded.unsealed;
}
  where
    front_of : (head : List ℕ) (byte : ℕ) (rest : List ℕ) → length head ≡ 16
        → take 17 (head ++ byte ∷ rest) ≡ head ++ byte ∷ []
    front_of head byte rest long = ap (λ (list : List ℕ). take 17 list) (sym (append_assoc head (byte ∷ []) rest))
        ∙ take_at (head ++ byte ∷ []) rest 17 (omega (arith, length-append head (byte ∷ []), long))

-- the first bytes of the first bytes
take_take : (list : List ℕ) (n m : ℕ) → n ≤ m → take n (take m list) ≡ take n list
take_take list zero m within = refl
take_take list (suc n) zero within = absurd (omega (arith, within))
take_take [] (suc n) (suc m) within = refl
take_take (first ∷ list) (suc n) (suc m) within = ap (λ (rest : List ℕ). first ∷ rest)
    (take_take list n m (omega (arith, within)))

-- a write from behind the seal's place on leaves it
pub torn_guarded : (place count longest : ℕ) (old new : List ℕ) → 17 ≤ place → Torn place count longest old new
    → IsGuarded old → IsGuarded new
torn_guarded place count longest old new behind torn guarded = guarded_same old new
    (sym (take_take new 17 place behind) ∙ (ap (λ (list : List ℕ). take 17 list) torn.before
    ∙ take_take old 17 place behind)) guarded

-- a file of more than 16 bytes has a byte in the seal's place
pub opened_at : (file : List ℕ) → 16 < length file
    → file ≡ take 16 file ++ get_or file 16 0 ∷ drop 17 file
opened_at file long = sym (take-append-drop 16 file)
    ∙ ap (λ (list : List ℕ). take 16 file ++ list) (drop_more file 16 0 long)

-- a write of the byte in the seal's place leaves the old file or a guarded one
pub seal_torn : (longest : ℕ) (old new : List ℕ) → 16 < length old → get_or old 16 0 ≡ 1 → Torn 16 1 longest old new
    → (new ≡ old) ⊎ IsGuarded new
seal_torn longest old new long one torn =
    let is : new ≡ take 16 old ++ get_or new 16 0 ∷ drop 17 old = opened_at new (omega (arith, torn.no_shorter, long))
    ∙ (ap (λ (list : List ℕ). list ++ get_or new 16 0 ∷ drop 17 new) torn.before
    ∙ ap (λ (list : List ℕ). take 16 old ++ get_or new 16 0 ∷ list) torn.behind) in
    elim (cases_eq (get_or new 16 0) 1) [
      | inl same ↦ inl (is ∙ (ap (λ (byte : ℕ). take 16 old ++ byte ∷ drop 17 old) (same ∙ sym one)
          ∙ sym (opened_at old long)))
      | inr differs ↦ inr record {
        head = take 16 old;
        byte = get_or new 16 0;
        rest = drop 17 old;
        is = is;
        place = length-take-le 16 old (omega (arith, long));
        unsealed = differs;
      }
    ]

-- and makes a guarded one
pub seal_broken : (old : List ℕ) → 16 < length old → IsGuarded (over 16 (0 ∷ []) old)
seal_broken old long = record {
  head = take 16 old;
  byte = 0;
  rest = drop 17 old;
  is = refl;
  place = length-take-le 16 old (omega (arith, long));
  unsealed = λ same. omega arith;
}

-- a file without the seal is guarded
pub unsealed_guarded : (file : List ℕ) → 16 < length file → get_or file 16 0 ≢ 1 → IsGuarded file
unsealed_guarded file long differs = record {
  head = take 16 file;
  byte = get_or file 16 0;
  rest = drop 17 file;
  is = opened_at file long;
  place = length-take-le 16 file (omega (arith, long));
  unsealed = differs;
}

-- 17 bytes of a guarded file
pub cut_guarded : (file : List ℕ) → IsGuarded file
    → IsGuarded (take 17 file) × (length (take 17 file) ≡ 17)
cut_guarded file guarded = (
  guarded_same file (take 17 file) (take_take file 17 17 (omega arith)) guarded,
  length-take-le 17 file (omega (
    arith,
    ap length guarded.is,
    length-append guarded.head (guarded.byte ∷ guarded.rest),
    guarded.place,
  )),
)

-- what a title over a guarded file of 17 bytes makes
pub titled_over : (file : List ℕ) (guarded : IsGuarded file) → length file ≡ 17
    → over 0 title file ≡ title ++ guarded.byte ∷ []
unfolding title_of
titled_over file guarded size = ap (λ (list : List ℕ). title ++ list) (ap (λ (list : List ℕ). drop 16 list) guarded.is
    ∙ (drop_at guarded.head (guarded.byte ∷ guarded.rest) 16 guarded.place
    ∙ ap (λ (list : List ℕ). guarded.byte ∷ list) (none guarded.rest (omega (
      arith,
      ap length guarded.is,
      length-append guarded.head (guarded.byte ∷ guarded.rest),
      guarded.place,
      size,
    )))))
  where
    none : (list : List ℕ) → length list ≡ 0 → list ≡ []
    none [] is = refl
    none (first ∷ list) is = absurd (omega (arith, is))

-- what a title and a closed seal over at most 16 bytes make
pub begun_over : (file : List ℕ) → length file ≤ 16 → over 0 (title ++ 0 ∷ []) file ≡ title ++ 0 ∷ []
unfolding title_of
begun_over file short = ap (λ (list : List ℕ). (title ++ 0 ∷ []) ++ list) (drop_all 17 file (omega (arith, short)))

-- a torn write at the start of at most 17 bytes that reaches up to 17 leaves no more
pub torn_short : (count longest : ℕ) (old new : List ℕ) → length old ≤ 17 → longest ≤ max (length old) 17
    → Torn 0 count longest old new → IsBlank new
torn_short count longest old new short most torn = inl (omega (arith, short, most, torn.no_longer))

-- one frame more, and nothing behind it
frames_end : (payloads : List (List ℕ)) (payload : List ℕ)
    → frames 0 (payloads ++ payload ∷ [])
    ≡ frames 0 payloads ++ 1 ∷ framed (length payloads) payload
frames_end payloads payload = sym (append-nil (frames 0 (payloads ++ payload ∷ [])))
    ∙ (frames_push Second 0 payloads payload []
    ∙ (ap (λ (list : List ℕ). frames 0 payloads ++ 1 ∷ list)
    (append-nil (framed (0 + length payloads) payload))
    ∙ ap (λ (n : ℕ). frames 0 payloads ++ 1 ∷ framed n payload) (zero_plus (length payloads))))

-- a write at the end
pub over_end : (bytes file : List ℕ) (place : ℕ) → length file ≡ place → over place bytes file ≡ file ++ bytes
over_end bytes file place is = ap (λ (list : List ℕ). list ++ (bytes ++ drop (place + length bytes) file))
    (take_all place file (omega (arith, is)))
    ∙ (ap (λ (list : List ℕ). file ++ (bytes ++ list)) (drop_all (place + length bytes) file (omega (arith, is)))
    ∙ ap (λ (list : List ℕ). file ++ list) (append-nil bytes))

-- bytes that were written, not synced, or torn, or not written at all: what a crash leaves
pub part_leaves : (P : List ℕ → Type 0) (place : ℕ) (bytes : List ℕ) (before now : Past)
    → ((image : List ℕ) → MayLeave before image → P image)
    → ((longest : ℕ) (image : List ℕ) → longest ≤ max (length (contents_of before)) (place + length bytes)
    → Follows (Torn place (length bytes) longest) (MayLeave before) image → P image)
    → WritesInPart place bytes before now → Leaves P before now
part_leaves P place bytes before now start torn part = elim part [
  | inl same ↦ subst (λ (past : Past). Leaves P before past) (sym same) (Leaves-start P before start)
  | inr (inl tore) ↦ subst (λ (past : Past). Leaves P before past) (sym tore.2)
      (Leaves-step P before before (Tore place (length bytes) tore.0) (Leaves-start P before start)
      (λ image from. torn (length tore.0) image tore.1.no_longer from))
  | inr (inr wrote) ↦ subst (λ (past : Past). Leaves P before past) (sym wrote)
      (Leaves-step P before before (Wrote place bytes) (Leaves-start P before start)
      (λ image from. torn (place + length bytes) image (omega arith) from))
]

-- bytes that were written and synced
pub put_leaves : (P : List ℕ → Type 0) (place : ℕ) (bytes : List ℕ) (before : Past)
    → ((image : List ℕ) → MayLeave before image → P image)
    → ((longest : ℕ) (image : List ℕ) → longest ≤ max (length (contents_of before)) (place + length bytes)
    → Follows (Torn place (length bytes) longest) (MayLeave before) image → P image)
    → P (over place bytes (contents_of before))
    → Leaves P before (Then Synced (Then (Wrote place bytes) before))
put_leaves P place bytes before start torn end = Leaves-step P before (Then (Wrote place bytes) before) Synced
    (part_leaves P place bytes before (Then (Wrote place bytes) before) start torn (inr (inr refl)))
    (λ image left. subst P (sym left) end)

-- what holds of the contents of a synced disk holds of each image
pub from_synced : (P : List ℕ → Type 0) (past : Past) → IsSynced past → P (contents_of past) → (image : List ℕ)
    → MayLeave past image → P image
from_synced P past synced holds image left = subst P (sym (synced image left)) holds

-- each torn write over a synced disk
pub torn_synced : (P : List ℕ → Type 0) (place count most : ℕ) (past : Past) → IsSynced past
    → ((longest : ℕ) (image : List ℕ) → longest ≤ most → Torn place count longest (contents_of past) image → P image)
    → (longest : ℕ) (image : List ℕ) → longest ≤ most → Follows (Torn place count longest) (MayLeave past) image
    → P image
torn_synced P place count most past synced each longest image within from = each longest image within
    (subst (λ (file : List ℕ). Torn place count longest file image) (synced from.0 from.1) from.2)

-- a write of the seal's byte leaves the old file or a blank one
seal_image : (old : List ℕ) (longest : ℕ) (image : List ℕ) → 16 < length old → get_or old 16 0 ≡ 1
    → Torn 16 1 longest old image → IsOldOrBlank old image
seal_image old longest image long one torn = elim (seal_torn longest old image long one torn) [
  | inl same ↦ inl same
  | inr guarded ↦ inr (guarded_blank image guarded)
]

-- what a crash leaves while the seal is broken
module _ (before : Past) (long : IsLong before) (one : get_or (contents_of before) 16 0 ≡ 1) where
  unseal_start : (image : List ℕ) → MayLeave before image → IsOldOrBlank (contents_of before) image
  unseal_start = from_synced (IsOldOrBlank (contents_of before)) before long.synced (inl refl)

  unseal_torn : (longest : ℕ) (image : List ℕ) → longest ≤ max (length (contents_of before)) 17
      → Follows (Torn 16 1 longest) (MayLeave before) image → IsOldOrBlank (contents_of before) image
  unseal_torn = torn_synced (IsOldOrBlank (contents_of before)) 16 1 (max (length (contents_of before)) 17) before
      long.synced (λ longest image within torn. seal_image (contents_of before) longest image long.long one torn)

  pub unseals : Unseals before (Then Synced (Then (Wrote 16 (0 ∷ [])) before))
  unseals = (
    record { synced = λ image left. left; guarded = seal_broken (contents_of before) long.long },
    put_leaves (IsOldOrBlank (contents_of before)) 16 (0 ∷ []) before unseal_start unseal_torn
        (inr (guarded_blank (over 16 (0 ∷ []) (contents_of before)) (seal_broken (contents_of before) long.long))),
  )

  pub unseals_in_part : (now : Past) → WritesInPart 16 (0 ∷ []) before now
      → Leaves (IsOldOrBlank (contents_of before)) before now
  unseals_in_part now = part_leaves (IsOldOrBlank (contents_of before)) 16 (0 ∷ []) before now unseal_start unseal_torn

-- there is no seal to break
pub unsealed_already : (before : Past) → IsLong before → get_or (contents_of before) 16 0 ≢ 1 → Unseals before before
unsealed_already before long differs = (
  record { synced = long.synced; guarded = unsealed_guarded (contents_of before) long.long differs },
  Leaves-start (IsOldOrBlank (contents_of before)) before
      (from_synced (IsOldOrBlank (contents_of before)) before long.synced (inl refl)),
)

-- nothing happened yet
pub unsealed_start : (before : Past) → IsLong before → Leaves (IsOldOrBlank (contents_of before)) before before
unsealed_start before long = Leaves-start (IsOldOrBlank (contents_of before)) before
    (from_synced (IsOldOrBlank (contents_of before)) before long.synced (inl refl))

-- what a crash leaves while the rest is cut off
module _ (before : Past) (unsealed : IsBroken before) where
  cut_start : Leaves IsBlank before before
  cut_start = Leaves-start IsBlank before
      (from_synced IsBlank before unsealed.synced (guarded_blank (contents_of before) unsealed.guarded))

  cut_image : (image : List ℕ) → MayLeave (Then (CutTo 17) before) image → IsBlank image
  cut_image image from = guarded_blank image (guarded_same (contents_of before) image
      (subst (λ (file : List ℕ). take 17 image ≡ take 17 file) (unsealed.synced from.0 from.1) from.2.front)
      unsealed.guarded)

  pub cuts_in_part : (now : Past) → (now ≡ before) ⊎ (now ≡ Then (CutTo 17) before) → Leaves IsBlank before now
  cuts_in_part now part = elim part [
    | inl same ↦ subst (λ (past : Past). Leaves IsBlank before past) (sym same) cut_start
    | inr cut ↦ subst (λ (past : Past). Leaves IsBlank before past) (sym cut)
        (Leaves-step IsBlank before before (CutTo 17) cut_start cut_image)
  ]

  pub cuts : Cuts before (Then Synced (Then (CutTo 17) before))
  cuts = let cut = cut_guarded (contents_of before) unsealed.guarded in (
    record { broken = record { synced = λ image left. left; guarded = cut.0 }; size = cut.1 },
    Leaves-step IsBlank before (Then (CutTo 17) before) Synced (cuts_in_part (Then (CutTo 17) before) (inr refl))
        (λ image left. subst IsBlank (sym left) (guarded_blank (take 17 (contents_of before)) cut.0)),
  )

-- a title and a byte that is no seal are guarded
title_guarded : (byte : ℕ) (rest : List ℕ) → byte ≢ 1 → IsGuarded (title ++ byte ∷ rest)
title_guarded byte rest differs = record {
  head = title;
  byte = byte;
  rest = rest;
  is = refl;
  place = length-title Second;
  unsealed = differs;
}

-- a journal was begun
begun_written : (past : Past) (byte : ℕ) → byte ≢ 1 → IsSynced past → contents_of past ≡ title ++ byte ∷ []
    → IsWritten [] 17 past
begun_written past byte differs synced is = record {
  sizes = tt;
  byte = byte;
  is = is;
  size = omega (arith, ap length is, length-append title (byte ∷ []), (length-title Second));
  unsealed = differs;
  images = from_synced IsGuarded past synced (subst IsGuarded (sym is) (title_guarded byte [] differs));
}

-- what a crash leaves while the title is written over at most 17 bytes
module _ (before : Past) (synced : IsSynced before) (short : length (contents_of before) ≤ 17) where
  title_start : (image : List ℕ) → MayLeave before image → IsBlank image
  title_start = from_synced IsBlank before synced (inl (omega (arith, short)))

  title_torn : (count size : ℕ) → size ≤ 17 → (longest : ℕ) (image : List ℕ)
      → longest ≤ max (length (contents_of before)) size
      → Follows (Torn 0 count longest) (MayLeave before) image → IsBlank image
  title_torn count size within = torn_synced IsBlank 0 count (max (length (contents_of before)) size) before synced
      (λ longest image most torn. torn_short count longest (contents_of before) image short
      (omega (arith, most, within)) torn)

  pub titles_in_part : (bytes : List ℕ) (now : Past) → length bytes ≤ 17 → WritesInPart 0 bytes before now
      → Leaves IsBlank before now
  titles_in_part bytes now within = part_leaves IsBlank 0 bytes before now title_start
      (title_torn (length bytes) (0 + length bytes) (omega (arith, within)))

  titles_put : (bytes : List ℕ) (byte : ℕ) → length bytes ≤ 17 → byte ≢ 1
      → over 0 bytes (contents_of before) ≡ title ++ byte ∷ []
      → Titles before (Then Synced (Then (Wrote 0 bytes) before))
  titles_put bytes byte within differs is = (
    begun_written (Then Synced (Then (Wrote 0 bytes) before)) byte differs (λ image left. left) is,
    put_leaves IsBlank 0 bytes before title_start (title_torn (length bytes) (0 + length bytes) (omega (arith, within)))
        (subst IsBlank (sym is) (guarded_blank (title ++ byte ∷ []) (title_guarded byte [] differs))),
  )

-- over a file that was cut
pub titles_cut : (before : Past) → IsCut before → Titles before (Then Synced (Then (Wrote 0 title) before))
titles_cut before cut = titles_put before cut.broken.synced (omega (arith, cut.size)) title cut.broken.guarded.byte
    (omega (arith, (length-title Second))) cut.broken.guarded.unsealed
    (titled_over (contents_of before) cut.broken.guarded cut.size)

-- over a short file
pub titles_short : (before : Past) → IsShort before
    → Titles before (Then Synced (Then (Wrote 0 (title ++ 0 ∷ [])) before))
titles_short before short = titles_put before short.synced (omega (arith, short.short)) (title ++ 0 ∷ []) 0
    (omega (arith, length-append title (0 ∷ []), (length-title Second))) (λ same. omega arith)
    (begun_over (contents_of before) short.short)

-- one write behind the seal's place
module _ (payloads : List (List ℕ)) (place : ℕ) (before : Past) (written : IsWritten payloads place before) where
  behind_place : 17 ≤ place
  behind_place = omega (
    arith,
    written.size,
    ap length written.is,
    length-append title (written.byte ∷ frames 0 payloads),
    (length-title Second),
  )

  pub written_start : (image : List ℕ) → MayLeave before image → IsBlank image
  written_start image left = guarded_blank image (written.images image left)

  -- a torn write behind what was written
  behind_image : (at count longest : ℕ) (image : List ℕ) → place ≤ at
      → Follows (Torn at count longest) (MayLeave before) image
      → IsGuarded image
  behind_image at count longest image within from =
      torn_guarded at count longest from.0 image (omega (arith, within, behind_place))
      from.2 (written.images from.0 from.1)

  -- a write at the end that was made in part
  pub end_in_part : (bytes : List ℕ) (now : Past) → WritesInPart place bytes before now → Leaves IsBlank before now
  end_in_part bytes now = part_leaves IsBlank place bytes before now written_start
      (λ longest image within from. guarded_blank image
      (behind_image place (length bytes) longest image (omega arith) from))

  -- what a write at the end makes
  end_contents : (bytes : List ℕ) → contents_of (Then (Wrote place bytes) before)
      ≡ title ++ written.byte ∷ (frames 0 payloads ++ bytes)
  end_contents bytes = over_end bytes (contents_of before) place written.size
      ∙ (ap (λ (list : List ℕ). list ++ bytes) written.is
      ∙ append_assoc title (written.byte ∷ frames 0 payloads) bytes)

  -- the frames and a closed gate are on the disk
  pub closes : IsClosed payloads (Then Synced (Then (Wrote place (0 ∷ [])) before))
      × Leaves IsBlank before (Then Synced (Then (Wrote place (0 ∷ [])) before))
  closes = (
    record {
      sizes = written.sizes;
      byte = written.byte;
      is = end_contents (0 ∷ []);
      unsealed = written.unsealed;
      synced = λ image left. left;
    },
    put_leaves IsBlank place (0 ∷ []) before written_start
        (λ longest image within from. guarded_blank image (behind_image place 1 longest image (omega arith) from))
        (subst IsBlank (sym (end_contents (0 ∷ [])))
        (guarded_blank (title ++ written.byte ∷ (frames 0 payloads ++ 0 ∷ []))
        (title_guarded written.byte (frames 0 payloads ++ 0 ∷ []) written.unsealed))),
  )

  -- a frame of which the head is written, and the payload in part
  pub behind_head_in_part : (payload head : List ℕ) (now : Past)
      → WritesInPart (place + 13) payload (Then (Wrote place head) before) now → Leaves IsBlank before now
  behind_head_in_part payload head now part = Leaves-both IsBlank before (Then (Wrote place head) before) now
      (Leaves-step IsBlank before before (Wrote place head) (Leaves-start IsBlank before written_start)
      (λ image from. guarded_blank image (head_image image from)))
      (part_leaves IsBlank (place + 13) payload (Then (Wrote place head) before) now
      (λ image from. guarded_blank image (head_image image from))
      (λ longest image within from. guarded_blank image (torn_guarded (place + 13) (length payload) longest from.0 image
      (omega (arith, behind_place)) from.2 (head_image from.0 from.1))) part)
    where
      head_image : (image : List ℕ) → MayLeave (Then (Wrote place head) before) image → IsGuarded image
      head_image image from = behind_image place (length head) (place + length head) image (omega arith) from

  module _ (payload head : List ℕ) (size : IsPayload payload)
      (is_head : head ++ payload ≡ 1 ∷ framed (length payloads) payload) (long : length head ≡ 13) where
    -- the head of a frame is written
    abbrev pub headed : Past
    headed = Then (Wrote place head) before

    headed_image : (image : List ℕ) → MayLeave headed image → IsGuarded image
    headed_image image from = behind_image place (length head) (place + length head) image (omega arith) from

    pub headed_size : length (contents_of headed) ≡ place + 13
    headed_size = omega (
      arith,
      ap length (over_end head (contents_of before) place written.size),
      length-append (contents_of before) head,
      written.size,
      long,
    )

    -- and the payload
    payload_contents : contents_of (Then (Wrote (place + 13) payload) headed)
        ≡ title ++ written.byte ∷ frames 0 (payloads ++ payload ∷ [])
    payload_contents = over_end payload (contents_of headed) (place + 13) headed_size
        ∙ (ap (λ (list : List ℕ). list ++ payload) (end_contents head)
        ∙ (append_assoc title (written.byte ∷ (frames 0 payloads ++ head)) payload
        ∙ ap (λ (list : List ℕ). title ++ written.byte ∷ list) (append_assoc (frames 0 payloads) head payload
        ∙ (ap (λ (list : List ℕ). frames 0 payloads ++ list) is_head ∙ sym (frames_end payloads payload)))))

    pub adds : IsWritten (payloads ++ payload ∷ []) (place + 13 + length payload)
        (Then (Wrote (place + 13) payload) headed)
        × Leaves IsBlank before (Then (Wrote (place + 13) payload) headed)
    adds = (
      record {
        sizes = ArePayloads-push payloads payload written.sizes size;
        byte = written.byte;
        is = payload_contents;
        size = omega (
          arith,
          ap length (over_end payload (contents_of headed) (place + 13) headed_size),
          length-append (contents_of headed) payload,
          headed_size,
        );
        unsealed = written.unsealed;
        images = λ image from. torn_guarded (place + 13) (length payload) (place + 13 + length payload) from.0 image
            (omega (arith, behind_place)) from.2 (headed_image from.0 from.1);
      },
      behind_head_in_part payload head (Then (Wrote (place + 13) payload) headed) (inr (inr refl)),
    )

-- the bytes of a sealed file
sealed_is : (payloads : List (List ℕ)) → title ++ 1 ∷ (frames 0 payloads ++ 0 ∷ []) ≡ front payloads ++ 0 ∷ []
sealed_is payloads = sym (append_assoc (header_of Second) (frames 0 payloads) (0 ∷ [])
    ∙ append_assoc title (1 ∷ []) (frames 0 payloads ++ 0 ∷ []))

-- what a sealed file stands for
pub sealed_stands : (payloads : List (List ℕ)) → ArePayloads payloads → StandsFor payloads (front payloads ++ 0 ∷ [])
sealed_stands payloads sizes = IsFramedIn-stands Second payloads (front payloads ++ 0 ∷ []) record {
  sizes = sizes;
  gate = 0;
  rest = [];
  is = refl;
  closed = λ same. omega arith;
}

-- what stands behind the seal's place
behind_seal : (byte : ℕ) (rest : List ℕ) → drop 17 (title ++ byte ∷ rest) ≡ rest
behind_seal byte rest = ap (λ (list : List ℕ). drop 17 list) (sym (append_assoc title (byte ∷ []) rest))
    ∙ drop_at (title ++ byte ∷ []) rest 17 (omega (arith, length-append title (byte ∷ []), (length-title Second)))

-- a write of the seal over a file with a closed gate
module _ (payloads : List (List ℕ)) (before : Past) (closed : IsClosed payloads before) where
  abbrev pub tail : List ℕ
  tail = frames 0 payloads ++ 0 ∷ []

  closed_start : (image : List ℕ) → MayLeave before image → IsBlankOr payloads image
  closed_start = from_synced (IsBlankOr payloads) before closed.synced (subst (IsBlankOr payloads) (sym closed.is)
      (inl (guarded_blank (title ++ closed.byte ∷ tail) (title_guarded closed.byte tail closed.unsealed))))

  seal_over : over 16 (1 ∷ []) (contents_of before) ≡ front payloads ++ 0 ∷ []
  unfolding title_of
  seal_over = ap (λ (list : List ℕ). over 16 (1 ∷ []) list) closed.is
      ∙ (ap (λ (list : List ℕ). list ++ 1 ∷ drop 17 (title ++ closed.byte ∷ tail))
      (take_at title (closed.byte ∷ tail) 16 (length-title Second))
      ∙ (ap (λ (list : List ℕ). title ++ 1 ∷ list) (behind_seal closed.byte tail) ∙ sealed_is payloads))

  seal_cases : (longest : ℕ) (image : List ℕ) → Torn 16 1 longest (title ++ closed.byte ∷ tail) image
      → IsBlankOr payloads image
  seal_cases longest image torn =
      let long : 16 < length image =
      omega (arith, torn.no_shorter, length-append title (closed.byte ∷ tail), (length-title Second)) in
      let is : image ≡ title ++ get_or image 16 0 ∷ tail = opened_at image long
      ∙ (ap (λ (list : List ℕ). list ++ get_or image 16 0 ∷ drop 17 image)
      (torn.before ∙ take_at title (closed.byte ∷ tail) 16 (length-title Second))
      ∙ ap (λ (list : List ℕ). title ++ get_or image 16 0 ∷ list) (torn.behind ∙ behind_seal closed.byte tail)) in
      elim (cases_eq (get_or image 16 0) 1) [
        | inl one ↦ inr (subst (StandsFor payloads) (sym (is ∙ (ap (λ (byte : ℕ). title ++ byte ∷ tail) one
            ∙ sealed_is payloads)))
            (sealed_stands payloads closed.sizes))
        | inr differs ↦ inl
            (guarded_blank image (subst IsGuarded (sym is) (title_guarded (get_or image 16 0) tail differs)))
      ]

  seal_images : (longest : ℕ) (image : List ℕ) → longest ≤ max (length (contents_of before)) 17
      → Follows (Torn 16 1 longest) (MayLeave before) image → IsBlankOr payloads image
  seal_images = torn_synced (IsBlankOr payloads) 16 1 (max (length (contents_of before)) 17) before closed.synced
      (λ longest image within torn. seal_cases longest image
      (subst (λ (file : List ℕ). Torn 16 1 longest file image) closed.is torn))

  pub seals_in_part : (now : Past) → WritesInPart 16 (1 ∷ []) before now → Leaves (IsBlankOr payloads) before now
  seals_in_part now = part_leaves (IsBlankOr payloads) 16 (1 ∷ []) before now closed_start seal_images

  pub seals : IsSealed payloads (Then Synced (Then (Wrote 16 (1 ∷ [])) before))
      × Leaves (IsBlankOr payloads) before (Then Synced (Then (Wrote 16 (1 ∷ [])) before))
  seals = (
    record { sizes = closed.sizes; is = seal_over; synced = λ image left. left },
    put_leaves (IsBlankOr payloads) 16 (1 ∷ []) before closed_start seal_images
        (subst (IsBlankOr payloads) (sym seal_over) (inr (sealed_stands payloads closed.sizes))),
  )
