-- Readers of several fields, one behind the other. `before` is what was taken or spelled before them.
use Rattle.std.proofs.Common.{◌≡◌, ℕ, ◌≤◌, eqb, cond, List, [], ◌∷◌, ◌++◌, Result, Ok, Err, refl, sym, ap, subst, ◌∙◌, append_assoc, inl, inr}
use Rattle.std.proofs.lemmas.Bool.{eqb-true}
use Rattle.std.proofs.lemmas.List.{append-nil}
use Rattle.s3r_record.specs.Reading.{◌>>=◌, Unread, place, byte_at}
use Rattle.s3r_record.proofs.FieldLaws.{byte_law}
use Rattle.s3r_record.proofs.ReaderLaws.{IsBytes, chosen, ok_is, Takes, left, Reads, take_field, read_again}

-- ---- what is read is spelled so

pub record TakesBehind {A : Type 0} (spell : A → List ℕ) (Fits : A → Type 0) (before : List ℕ) (read : Unread → Result (A × Unread) ℕ) : Type 0 where
  pub takes : (u : Unread) (x : A × Unread) → IsBytes u.bytes → read u ≡ Ok x → Takes (before ++ u.bytes) (spell x.0) x.1.bytes × Fits x.0

-- a field, and what is read behind it
pub take_then : {A B : Type 0} {read : Unread → Result (A × Unread) ℕ} {text : A → List ℕ} {Named : A → Type 0} {spell : B → List ℕ} {Fits : B
    → Type 0} {before : List ℕ} (next : A × Unread → Result (B × Unread) ℕ)
    → Reads read text Named → ((value : A) → Named value → TakesBehind spell Fits (before ++ text value) (λ u. next (value, u)))
    → TakesBehind spell Fits before (λ u. read u >>= next)
take_then {text = text} {before = before} next law behind = record {
  takes = λ u x fits e.
      let field = take_field law next u x fits e in
      let others = (behind field.value field.fits).takes field.rest x field.takes.rest_fits field.gave in
      let parts = ap (λ (bytes : List ℕ). before ++ bytes) field.takes.parts ∙ sym (append_assoc before (text field.value) field.rest.bytes) ∙ others.0.parts in
      (record { parts = parts; rest_fits = others.0.rest_fits }, others.1);
}

-- no field is left
pub take_end : {B : Type 0} {spell : B → List ℕ} {Fits : B → Type 0} (x : B) → Fits x → TakesBehind spell Fits (spell x) (λ u. Ok (x, u))
take_end {B = B} {spell = spell} {Fits = Fits} x named = record {
  takes = λ u y fits e. subst (λ (z : B × Unread). Takes (spell x ++ u.bytes) (spell z.0) z.1.bytes
      × Fits z.0) (ok_is (x, u) y e) (record { parts = refl; rest_fits = fits }, named);
}

-- no field is left, and what was taken is the spelling in other parts
pub take_as : {B : Type 0} {spell : B → List ℕ} {Fits : B → Type 0} {before : List ℕ} (x : B) → before ≡ spell x → Fits x
    → TakesBehind spell Fits before (λ u. Ok (x, u))
take_as {spell = spell} {Fits = Fits} x parts named =
    subst (λ (before : List ℕ). TakesBehind spell Fits before (λ u. Ok (x, u))) (sym parts) (take_end x named)

-- the reader that a byte before it chooses, among several
pub take_chosen : {B : Type 0} {spell : B → List ℕ} {Fits : B → Type 0} {read others : Unread → Result (B × Unread) ℕ} (k kind : ℕ)
    → TakesBehind spell Fits (k ∷ []) read → TakesBehind spell Fits (kind ∷ []) others
    → TakesBehind spell Fits (kind ∷ []) (λ u. cond (eqb kind k) (read u) (others u))
take_chosen {spell = spell} {Fits = Fits} {read = read} {others = others} k kind named more = record {
  takes = λ u x fits e.
      elim (chosen (eqb kind k) (read u) (others u) x e) [
        | inl this ↦ subst (λ (n : ℕ). Takes (n ∷ u.bytes) (spell x.0) x.1.bytes × Fits x.0) (sym (eqb-true _ _ this.0)) (named.takes u x fits this.1)
        | inr other ↦ more.takes u x fits other
      ];
}

pub take_none : {B : Type 0} {spell : B → List ℕ} {Fits : B → Type 0} {before : List ℕ} (place : ℕ) → TakesBehind spell Fits before (λ u. Err place)
take_none place = record { takes = λ u x fits e. absurd cc }

-- ---- what is spelled so is read

pub record ReadBehind {A : Type 0} (spell : A → List ℕ) (before : List ℕ) (x : A) (read : Unread → Result (A × Unread) ℕ) : Type 0 where
  pub after : List ℕ
  pub parts : before ++ after ≡ spell x
  pub again : (whole : ℕ) (rest : List ℕ) → read (left whole (after ++ rest)) ≡ Ok (x, left whole rest)

pub again_then : {A B : Type 0} {read : Unread → Result (A × Unread) ℕ} {text : A → List ℕ} {Named : A → Type 0} {spell : B
    → List ℕ} {before : List ℕ} {x : B} (next : A × Unread → Result (B × Unread) ℕ)
    → Reads read text Named → (value : A) → Named value → ReadBehind spell (before ++ text value) x (λ u. next (value, u))
    → ReadBehind spell before x (λ u. read u >>= next)
again_then {read = read} {text = text} {before = before} next law value named behind = record {
  after = text value ++ behind.after;
  parts = sym (append_assoc before (text value) behind.after) ∙ behind.parts;
  again = λ whole rest.
      ap (λ (bytes : List ℕ). read (left whole bytes) >>= next) (append_assoc (text value) behind.after rest)
      ∙ read_again law next whole value (behind.after ++ rest) named
      ∙ behind.again whole rest;
}

pub again_end : {B : Type 0} {spell : B → List ℕ} (x : B) → ReadBehind spell (spell x) x (λ u. Ok (x, u))
again_end {spell = spell} x = record { after = []; parts = append-nil (spell x); again = λ whole rest. refl }

pub again_as : {B : Type 0} {spell : B → List ℕ} {before : List ℕ} (x : B) → before ≡ spell x → ReadBehind spell before x (λ u. Ok (x, u))
again_as {before = before} x parts = record { after = []; parts = append-nil before ∙ parts; again = λ whole rest. refl }

-- ---- several fields that make one

pub reads : {A : Type 0} {read : Unread → Result (A × Unread) ℕ} {spell : A → List ℕ} {Fits : A → Type 0}
    → TakesBehind spell Fits [] read → ((x : A) → Fits x → ReadBehind spell [] x read) → Reads read spell Fits
reads {read = read} taken again = record {
  takes = taken.takes;
  again = λ whole x rest fits.
      let behind = again x fits in
      ap (λ (bytes : List ℕ). read (left whole (bytes ++ rest))) (sym behind.parts) ∙ behind.again whole rest;
}

-- ---- a byte that chooses what is read behind it, or else is wrong at its place

abbrev pub choice_at : {B : Type 0} → (ℕ → ℕ → Unread → Result (B × Unread) ℕ) → Unread → Result (B × Unread) ℕ
choice_at next u = byte_at 255 u >>= λ byte. next (place u) byte.0 byte.1

pub take_choice : {B : Type 0} {spell : B → List ℕ} {Fits : B → Type 0} (next : ℕ → ℕ → Unread → Result (B × Unread) ℕ)
    → ((at byte : ℕ) → TakesBehind spell Fits (byte ∷ []) (next at byte)) → TakesBehind spell Fits [] (choice_at next)
take_choice {spell = spell} {Fits = Fits} next behind = record {
  takes = λ u x fits e.
      let all : TakesBehind spell Fits [] (λ v. byte_at 255 v >>= λ byte. next (place u) byte.0 byte.1) =
      take_then {before = []} (λ byte. next (place u) byte.0 byte.1) (byte_law 255) (λ byte _. behind (place u) byte) in
      all.takes u x fits e;
}

pub again_choice : {B : Type 0} {spell : B → List ℕ} {x : B} {read : Unread → Result (B × Unread) ℕ} (next : ℕ → ℕ → Unread → Result (B × Unread) ℕ)
    (byte : ℕ) → byte ≤ 255 → ((at : ℕ) (u : Unread) → next at byte u ≡ read u) → ReadBehind spell (byte ∷ []) x read
    → ReadBehind spell [] x (choice_at next)
again_choice {read = read} next byte few chosen behind = record {
  after = byte ∷ behind.after;
  parts = behind.parts;
  again = λ whole rest.
      let at = place (left whole (byte ∷ (behind.after ++ rest))) in
      read_again (byte_law 255) (λ read. next at read.0 read.1) whole byte (behind.after ++ rest) few
      ∙ chosen at (left whole (behind.after ++ rest))
      ∙ behind.again whole rest;
}
