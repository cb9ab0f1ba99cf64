-- A row that was received was prescribed by its sender.
use Rattle.std.proofs.Common.{◌≡◌, ℕ, ◌+◌, Bool, true, false, cond, ◌&&◌, is_none, [], ◌∷◌, Option, Some, None, length, bytes_eq, refl, sym, subst, ap, ap₂, ◌∙◌, true≢false}
use Rattle.std.proofs.lemmas.Slice.Eq.{bytes_eq-Decides}
use Rattle.s3r_names.specs.declared.outcome.Outcome.{Outcome}
use Rattle.s3r_names.specs.declared.outcome.Outcome.TheVariants as outcomes
use Rattle.s3r_record.specs.declared.command.Command.{Command}
use Rattle.s3r_record.specs.declared.command.Command.TheVariants as command
use Rattle.s3r_record.specs.declared.effect.Effect.TheVariants as effects
use Rattle.s3r_versions.specs.declared.row.Origin.{Origin}
use Rattle.s3r_history.specs.Words.{Name, History}
use Rattle.s3r_history.specs.Past.{Entry, Carried, Added}
use Rattle.s3r_history.specs.Carried.{source_of, target_of, key_of, id_of, is_applied}
use Rattle.s3r_history.specs.Rows.{at_present, row_at}
use Rattle.s3r_history.specs.Deeds.{deeds, brought, judge}
use Rattle.std.specs.List.{AllByRecursion}
use Rattle.s3r_history.specs.Tasks.{received}
use Rattle.s3r_history.specs.Agree.{IsSent}
use Rattle.s3r_history.proofs.Versions.{length-deeds}
use Rattle.s3r_history.proofs.Unwritten.{done}
use Rattle.s3r_history.proofs.Written.{IsKept, each_version, each_row, of_some, rows_written}
use Rattle.s3r_arrivals.specs.Arrivals.{WasReceived}
use Rattle.s3r_arrivals.specs.ArrivalLaws.{ReceivedWasPrescribed}
use Rattle.s3r_arrivals.proofs.Receipts.{received-at}

-- the row was brought to the bucket by an effect from this bucket of s, and is as it was brought or as this shows it
record Brought (s d : ℕ) (k : History) (b : Name) (shown : Entry → Entry) (from : Name) (row : Entry) : Type 0 where
  pub number : ℕ
  pub effect : Carried
  pub was_received : WasReceived s d k number effect outcomes.Applied
  pub source : source_of effect ≡ from
  pub target : target_of effect ≡ b
  pub added : Added
  pub brings : brought (length was_received.earlier + 1) s effect ≡ Some added
  pub is_shown : row ≡ shown added.row

-- where the row names s as its origin
abbrev IsBrought : (s d : ℕ) (b : Name) → (Entry → Entry) → History → Entry → Type 0
IsBrought s d b shown k row = (origin : Origin) → row.origin ≡ Some origin → origin.region ≡ s → Brought s d k b shown origin.bucket row

applied-is : (o : Outcome) → is_applied o ≡ true → o ≡ outcomes.Applied
applied-is outcomes.Applied ok = refl
applied-is (outcomes.Refused reason) ok = absurd (true≢false (sym ok))

-- of one value that is there there is one
some-same : {A : Type 0} (o : Option A) (x y : A) → o ≡ Some x → o ≡ Some y → x ≡ y
some-same None x y is that = absurd cc
some-same (Some z) x y is that = let a : z ≡ x = cc in let b : z ≡ y = cc in sym a ∙ b

not-none : {A : Type 0} (o : Option A) (x : A) → o ≡ None → o ≡ Some x → ⊥
not-none None x none is = absurd cc
not-none (Some y) x none is = absurd cc

abbrev IsFrom : ℕ → Name → Name → Added → Type 0
IsFrom s from to a = (a.bucket ≡ to) × (a.row.origin ≡ Some (record { region = s; bucket = from }))

abbrev IsOwn : Added → Type 0
IsOwn a = a.row.origin ≡ None

-- what an effect brings has the effect's bucket, and its origin
brought-from : (p s : ℕ) (e : Carried) (a : Added) → brought p s e ≡ Some a
    → (a.bucket ≡ target_of e) × (a.row.origin ≡ Some (record { region = s; bucket = source_of e }))
brought-from p s (effects.Replica from to key id n tags tags_stamp hold hold_stamp class body) a is =
    of_some (IsFrom s from to) (brought p s (effects.Replica from to key id n tags tags_stamp hold hold_stamp class body)) a is (refl, refl)
brought-from p s (effects.Marker from to key id n) a is = of_some (IsFrom s from to) (brought p s (effects.Marker from to key id n)) a is (refl, refl)
brought-from p s (effects.Tags from to key id tags stamp) a is = absurd cc
brought-from p s (effects.Hold from to key id hold stamp) a is = absurd cc

new-brought : (s d : ℕ) (b : Name) (h : History) (c : Command) (a : Added) → (done d h c).adds ≡ Some a → bytes_eq a.bucket b ≡ true
    → IsBrought s d b (λ row. row) (c ∷ h) a.row
new-brought s d b h (command.Put name key tags hold class body) a is same origin from here =
    absurd (not-none a.row.origin origin (of_some IsOwn (done d h (command.Put name key tags hold class body)).adds a is refl) from)
new-brought s d b h (command.Marker name key) a is same origin from here =
    absurd (not-none a.row.origin origin (of_some IsOwn (done d h (command.Marker name key)).adds a is refl) from)
new-brought s d b h (command.Receive from number e) a is same origin comes here =
    go (is_applied (judge d h e)) refl (is_none (row_at (deeds d h) (target_of e) (key_of e) (id_of e))) is
  where
    go : (t : Bool) → is_applied (judge d h e) ≡ t → (u : Bool) → cond (t && u) (brought (length (deeds d h) + 1) from e) None ≡ Some a
        → Brought s d (command.Receive from number e ∷ h) b (λ row. row) origin.bucket a.row
    go true ok true is =
        let parts = brought-from (length (deeds d h) + 1) from e a is in
        let that = some-same a.row.origin (record { region = from; bucket = source_of e }) origin parts.1 comes in
        let region : from ≡ s = ap (λ (x : Origin). x.region) that ∙ here in
        record {
          number = number;
          effect = e;
          was_received = record {
            later = [];
            earlier = h;
            there = ap (λ x. command.Receive x number e ∷ h) region;
            came = applied-is (judge d h e) ok;
          };
          source = ap (λ (x : Origin). x.bucket) that;
          target = sym parts.0 ∙ (bytes_eq-Decides a.bucket b).0 same;
          added = a;
          brings = ap₂ (λ x y. brought (x + 1) y e) (sym (length-deeds d h)) (sym region) ∙ is;
          is_shown = refl;
        }
    go true ok false is = absurd cc
    go false ok u is = absurd cc
new-brought s d b h _ a is same origin from here = absurd cc

old-brought : (s d : ℕ) (b : Name) (h : History) (c : Command) (v : Entry) → IsBrought s d b (λ row. row) h v → IsBrought s d b (λ row. row) (c ∷ h) v
old-brought s d b h c v was origin from here =
    let old = was origin from here in
    record {
      number = old.number;
      effect = old.effect;
      was_received = record {
        later = c ∷ old.was_received.later;
        earlier = old.was_received.earlier;
        there = ap (λ (x : History). c ∷ x) old.was_received.there;
        came = old.was_received.came;
      };
      source = old.source;
      target = old.target;
      added = old.added;
      brings = old.brings;
      is_shown = old.is_shown;
    }

brought-kept : (n s d : ℕ) (b : Name) → IsKept n d b (IsBrought s d b (λ row. row))
brought-kept n s d b = record {
  new = λ h c a lawful goes_on is same. new-brought s d b h c a is same;
  old = λ h c v goes_on other was. old-brought s d b h c v was;
}

shown-brought : (s d : ℕ) (k : History) (b : Name) (v : Entry) → IsBrought s d b (λ row. row) k v
    → IsBrought s d b (at_present (deeds d k) b) k (at_present (deeds d k) b v)
shown-brought s d k b v was origin from here =
    let old = was origin from here in
    record {
      number = old.number;
      effect = old.effect;
      was_received = old.was_received;
      source = old.source;
      target = old.target;
      added = old.added;
      brings = old.brings;
      is_shown = ap (at_present (deeds d k) b) old.is_shown;
    }

pub received_was_prescribed : ReceivedWasPrescribed
received_was_prescribed n s d h k b at row origin lawful agrees is there from here =
    let was = each_row d k b at row (IsBrought s d b (λ x. x) k) (IsBrought s d b (at_present (deeds d k) b) k) (shown-brought s d k b)
    (each_version n d b (IsBrought s d b (λ x. x)) (brought-kept n s d b) k lawful) is there origin from here in
    let w = was.was_received in
    let so = received-at s d (IsSent h (deeds s h) d) w.later w.earlier was.number was.effect
    (subst (λ (x : History). AllByRecursion (IsSent h (deeds s h) d) (received (deeds d x) s)) w.there agrees.sent_so) in
    let written = rows_written n d k b at row lawful is there in
    record {
      number = was.number;
      above = so.above;
      to_sent = so.to_sent;
      came = record { effect = was.effect; prescribed_there = so.prescribed_there; was_received = w };
      source = was.source;
      target = was.target;
      added = was.added;
      brings = was.brings;
      shown = was.is_shown;
      tags = written.0;
      hold = written.1;
    }
