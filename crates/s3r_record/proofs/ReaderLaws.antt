-- What a reader takes is the spelling of what it gives, and a spelling is read again, whatever follows it.
use Rattle.std.proofs.Common.{◌≡◌, ℕ, ◌+◌, ◌<◌, suc, Bool, true, false, cond, List, ◌∷◌, ◌++◌, get_or, take, drop, Result, Ok, Err, refl, sym, ap, ◌∙◌, append_assoc, arith, ◌⊎◌, inl, inr}
use Rattle.std.proofs.lemmas.Bool.{cases_lt}
use Rattle.std.proofs.lemmas.List.{length-take, get_or-drop, get_or-take, get_or_past}
use Rattle.s3r_record.specs.Reading.{◌>>=◌, Unread}

abbrev pub IsBytes : List ℕ → Type 0
IsBytes bytes = (i : ℕ) → get_or bytes i 0 < 256

pub IsBytes-drop : (n : ℕ) (bytes : List ℕ) → IsBytes bytes → IsBytes (drop n bytes)
IsBytes-drop n bytes h i = rw get_or-drop (h (n + i))

pub IsBytes-take : (n : ℕ) (bytes : List ℕ) → IsBytes bytes → IsBytes (take n bytes)
IsBytes-take n bytes h i =
    elim (cases_lt i n) [
      | inl lt ↦ rw (get_or-take n bytes i 0 lt) (h i)
      | inr le ↦ rw (get_or_past (take n bytes) i 0 (omega (arith, length-take n bytes))) (omega arith)
    ]

pub IsBytes-rest : (b : ℕ) (bytes : List ℕ) → IsBytes (b ∷ bytes) → IsBytes bytes
IsBytes-rest b bytes h i = h (suc i)

-- the value of a step that did not fail
pub bind_ok : {A B : Type 0} (r : Result A ℕ) (f : A → Result B ℕ) (y : B) → (r >>= f) ≡ Ok y → (x : A) × (r ≡ Ok x) × (f x ≡ Ok y)
bind_ok (Ok x) f y e = (x, refl, e)
bind_ok (Err d) f y e = absurd cc

-- a test that did not fail
pub guard_passed : {A : Type 0} (b : Bool) (d : ℕ) (x y : A) → cond b (Ok x) (Err d) ≡ Ok y → (b ≡ true) × (x ≡ y)
guard_passed true d x y e = (refl, cc)
guard_passed false d x y e = absurd cc

pub guard_missed : {A : Type 0} (b : Bool) (d : ℕ) (x y : A) → cond b (Err d) (Ok x) ≡ Ok y → (b ≡ false) × (x ≡ y)
guard_missed true d x y e = absurd cc
guard_missed false d x y e = (refl, cc)

-- which way a choice went
pub chosen : {A : Type 0} (b : Bool) (r s : Result A ℕ) (y : A) → cond b r s ≡ Ok y → ((b ≡ true) × (r ≡ Ok y)) ⊎ (s ≡ Ok y)
chosen true r s y e = inl (refl, e)
chosen false r s y e = inr e

abbrev done : {A : Type 0} → A → Result A ℕ
done x = Ok x

pub ok_is : {A : Type 0} (x y : A) → done x ≡ done y → x ≡ y
ok_is x y e = cc

-- what a reader took from the front
pub record Takes (bytes text rest : List ℕ) : Type 0 where
  pub parts : bytes ≡ text ++ rest
  pub rest_fits : IsBytes rest

pub Takes-then : (a x b y c : List ℕ) → Takes a x b → Takes b y c → Takes a (x ++ y) c
Takes-then a x b y c p q = record { parts = p.parts ∙ ap (λ (t : List ℕ). x ++ t) q.parts ∙ sym (append_assoc x y c); rest_fits = q.rest_fits }

abbrev pub left : ℕ → List ℕ → Unread
left whole bytes = record { whole = whole; bytes = bytes }

-- the two laws of a field
pub record Reads {A : Type 0} (read : Unread → Result (A × Unread) ℕ) (spell : A → List ℕ) (Fits : A → Type 0) : Type 0 where
  pub takes : (u : Unread) (x : A × Unread) → IsBytes u.bytes → read u ≡ Ok x → Takes u.bytes (spell x.0) x.1.bytes × Fits x.0
  pub again : (whole : ℕ) (x : A) (rest : List ℕ) → Fits x → read (left whole (spell x ++ rest)) ≡ Ok (x, left whole rest)

-- the same field, whose values are told by another rule
pub Reads-as : {A : Type 0} {read : Unread → Result (A × Unread) ℕ} {spell : A → List ℕ} {Fits Rule : A → Type 0} → Reads read spell Fits
    → ((x : A) → Fits x → Rule x) → ((x : A) → Rule x → Fits x) → Reads read spell Rule
Reads-as law to from = record {
  takes = λ u x fits e. let t = law.takes u x fits e in (t.0, to x.0 t.1);
  again = λ whole x rest ruled. law.again whole x rest (from x ruled);
}

-- a field that was taken, and the reading behind it
pub record Taken {A B : Type 0} (u : Unread) (spell : A → List ℕ) (Fits : A → Type 0) (next : A × Unread → Result B ℕ) (y : B) : Type 0 where
  pub value : A
  pub rest : Unread
  pub takes : Takes u.bytes (spell value) rest.bytes
  pub fits : Fits value
  pub gave : next (value, rest) ≡ Ok y

pub take_field : {A B : Type 0} {read : Unread → Result (A × Unread) ℕ} {spell : A → List ℕ} {Fits : A → Type 0} → Reads read spell Fits
    → (next : A × Unread → Result B ℕ) (u : Unread) (y : B) → IsBytes u.bytes → (read u >>= next) ≡ Ok y → Taken u spell Fits next y
take_field {read = read} law next u y fits e =
    let b = bind_ok (read u) next y e in
    let t = law.takes u b.0 fits b.1 in
    record { value = b.0.0; rest = b.0.1; takes = t.0; fits = t.1; gave = b.2 }

pub read_again : {A B : Type 0} {read : Unread → Result (A × Unread) ℕ} {spell : A → List ℕ} {Fits : A → Type 0} → Reads read spell Fits
    → (next : A × Unread → Result B ℕ) (whole : ℕ) (x : A) (rest : List ℕ) → Fits x → (read (left whole (spell x ++ rest)) >>= next) ≡ next (x, left whole rest)
read_again law next whole x rest fits = ap (λ r. r >>= next) (law.again whole x rest fits)
