-- A run, request by request.
use Rattle.std.proofs.Common.{◌≡◌, ◌⊎◌, ℕ, ◌+◌, ◌<◌, List, [], ◌∷◌, ◌++◌, length, Option, Some, None, IfSome, Result, Ok, Err, refl, inl, sym, ◌∙◌, ap, subst, ⊎_elim, append_assoc, arith}
use Rattle.s3r_world.specs.declared.world.Side.TheVariants as side
use Rattle.s3r_world.specs.Outside.{Outside, Counts, NoneFalls, Rises, KeepsVolumes}
use Rattle.s3r_world.specs.Image.{Image}
use Rattle.s3r_world.specs.Moments.{falls_then, rises_none, rises_before, rises_then}
use Rattle.s3r_store.specs.declared.store.Store.{Store}
use Rattle.s3r_desk.specs.Events.{answered, Events}
use Rattle.s3r_desk.specs.Copying.{attempts_about}
use Rattle.s3r_desk.specs.Keeping.{Keeps, IsFresh, IsHeld}
use Rattle.s3r_store.specs.declared.loaded_region.LoadedRegion.{LoadedRegion}
use Rattle.s3r_service.specs.declared.stop.Ending.{Ending}
use Rattle.s3r_service.specs.declared.stop.Stop.{Stop}
use Rattle.s3r_service.specs.declared.stop.Stop.TheVariants as stop
use Rattle.s3r_service.specs.Passing.{Passes}
use Rattle.s3r_service.specs.Turns.{Turn, IsAnswered, IsRight, events_of, input_of, AreTurns, AreCounted, failures, events_in, text_in, turns_with, Occasion, request_came, text_of, AreItsFaults, fails_in}
use Rattle.s3r_http.specs.declared.message.HttpFault.{HttpFault}
use Rattle.s3r_http.specs.declared.message.HttpFault.TheVariants as http
use Rattle.s3r_service.specs.Served.{IsEnd, Served, stop_of}
use Rattle.s3r_service.specs.Serving.{Serves, IsServing, Limits}
use Rattle.s3r_service.proofs.Passing.{passes_none, passes_then, keeps_all}
use Rattle.s3r_service.proofs.Telling.{falls_none}

-- before the first request
unread : (n r : ℕ) (o : Option LoadedRegion) (w : Outside) → o ≡ None → IsHeld n [] r o w
unread n r None w e = refl
unread n r (Some held) w e = absurd cc

pub serving_none : (n : ℕ) (room : ℕ → ℕ) (stores : List Store) (w : Outside) (a : Counts) → IsFresh stores → IsServing n room [] w.input stores w w a a
serving_none n room stores w a fresh = record {
  right = tt;
  parts = refl;
  passes = passes_none n w w (keeps_all w);
  keeps = λ r s get. unread s.regions r s.held w (fresh r s get);
  counted = falls_none a;
  connections = refl;
}

-- ---- the counts of turns

counted_later : (a b d : Counts) (turns : List Turn) → AreCounted a turns b → NoneFalls b d → AreCounted a turns d
counted_later a b d [] was falls = falls_then a b d was falls
counted_later a b d (t ∷ earlier) was falls = (was.0, falls_then t.after b d was.1 falls)

counted_with : (a b d : Counts) (turns : List Turn) (turn : Option Turn) → AreCounted a turns b → AreCounted b (turns_with turn []) d
    → AreCounted a (turns_with turn turns) d
counted_with a b d turns None was falls = counted_later a b d turns was falls
counted_with a b d turns (Some t) was here = (counted_later a b t.before turns was here.0, here.1)

its_faults : (v : ℕ) (occasion : Occasion) (step : Events) (a b : Counts) → AreItsFaults occasion step a b
    → Rises (attempts_about v step + fails_in v occasion) (side.Volume v) a b
its_faults v (request_came raw text outcome) step a b counted = counted v

-- no count has fallen since the first
falls_since : (n : ℕ) (room : ℕ → ℕ) (start : Image) (turns : List Turn) (a b : Counts) → AreTurns n room start turns → AreCounted a turns b → NoneFalls a b
falls_since n room start [] a b right counted = counted
falls_since n room start (t ∷ earlier) a b right counted = falls_then a t.before b (falls_since n room start earlier a t.before right.2 counted.0)
    (falls_then t.before t.after b right.0.answered.counts counted.1)

-- one turn more
sum_one : (v by : ℕ) (t : Turn) (a b : Counts) → NoneFalls a t.before → NoneFalls t.before t.after → AreItsFaults t.occasion t.step t.before t.after
    → NoneFalls t.after b → Rises by (side.Volume v) a t.before
    → Rises (by + (attempts_about v t.step + fails_in v t.occasion)) (side.Volume v) a b
sum_one v by t a b since counts counted falls sum =
    rises_then by (attempts_about v t.step + fails_in v t.occasion) (side.Volume v) a t.before b since sum
    (rises_before (attempts_about v t.step + fails_in v t.occasion) (side.Volume v) t.before t.after b
    (its_faults v t.occasion t.step t.before t.after counted) falls)

sum_turns : (n : ℕ) (room : ℕ → ℕ) (start : Image) (turns : List Turn) (a b : Counts) (v : ℕ) → AreTurns n room start turns → AreCounted a turns b
    → Rises (failures v turns) (side.Volume v) a b
sum_turns n room start [] a b v right counted = rises_none (side.Volume v) a b counted
sum_turns n room start (t ∷ earlier) a b v right counted =
    sum_one v (failures v earlier) t a b (falls_since n room start earlier a t.before right.2 counted.0)
    right.0.answered.counts right.0.answered.counted counted.1
    (sum_turns n room start earlier a t.before v right.2 counted.0)

sum_all : (n : ℕ) (room : ℕ → ℕ) (start : Image) (turns : List Turn) (turn : Option Turn) (a b : Counts) (v : ℕ) → AreTurns n room start turns
    → IfSome turn (IsRight n room start (events_of turns))
    → AreCounted a (turns_with turn turns) b → Rises (failures v (turns_with turn turns)) (side.Volume v) a b
sum_all n room start turns None a b v right final counted = sum_turns n room start turns a b v right counted
sum_all n room start turns (Some t) a b v right final counted =
    sum_one v (failures v turns) t a b (falls_since n room start turns a t.before right counted.0)
    final.answered.counts final.answered.counted counted.1 (sum_turns n room start turns a t.before v right counted.0)

-- ---- one request more, or the end

module _ (n : ℕ) (room : ℕ → ℕ) (turns : List Turn) (stream rest left : List ℕ) (stores stores' : List Store) (start mid new : Outside) (a b d : Counts)
    (was : IsServing n room turns stream stores start mid a b) where
  right_here : (t : Turn) → IsAnswered n room (events_of turns) mid.as_read t → IsRight n room start.as_read (events_of turns) t
  right_here t is = record { seen = mid.as_read; since = was.passes.as_read; answered = is }

  right_at : (turn : Option Turn) → IfSome turn (IsAnswered n room (events_of turns) mid.as_read) → IfSome turn (IsRight n room start.as_read (events_of turns))
  right_at None is = tt
  right_at (Some t) is = right_here t is

  -- one request more went on
  module _ (did : Serves n room (events_of turns) (Ok None) stream rest left stores' mid new b d) where
    abbrev one : Turn
    one = did.ends.1

    events_are : did.closing ++ events_in did.turn ≡ answered one.sent ∷ one.step
    events_are = ap (λ (l : Events). l ++ events_in did.turn) did.ends.0 ∙ ap events_in did.ends.2

    pub serving_on : (t : Turn) × IsServing n room (t ∷ turns) rest stores' start new a d
    serving_on = (
      one,
      record {
        right = (
          right_here one (subst (λ (o : Option Turn). IfSome o (IsAnswered n room (events_of turns) mid.as_read)) did.ends.2 did.right),
          did.ends.3,
          was.right,
        );
        parts = was.parts ∙ ap (λ (l : List ℕ). input_of turns ++ l) (did.text ∙ ap (λ (o : Option Turn). text_in o ++ rest) did.ends.2)
            ∙ sym (append_assoc (input_of turns) (text_of one.occasion) rest);
        passes = passes_then n (events_of turns) (answered one.sent ∷ one.step) start mid new was.passes
            (subst (λ (l : Events). Passes n l mid new) events_are did.passes);
        keeps = subst (λ (l : Events). Keeps (l ++ events_of turns) stores' new) events_are did.keeps;
        counted = counted_with a b d turns (Some one) was.counted (subst (λ (o : Option Turn). AreCounted b (turns_with o []) d) did.ends.2 did.counted);
        connections = did.connections ∙ was.connections;
      },
    )

  -- the run ended
  served : (result : Result Ending Stop) (turn : Option Turn) (closing : Events) → IfSome turn (IsAnswered n room (events_of turns) mid.as_read)
      → stream ≡ text_in turn ++ rest → Passes n (closing ++ events_in turn) mid new
      → IsEnd result (length turns) turn closing rest new.input → AreCounted b (turns_with turn []) d → new.connections ≡ mid.connections
      → (taken : List ℕ) → rest ≡ taken ++ new.input → Served n room result start new a d
  served result turn closing right text passes ends here connections taken rest_is =
      let counted = counted_with a b d turns turn was.counted here in
      record {
        conversation = record {
          turns = turns;
          final = turn;
          closing = closing;
          rest = rest;
          are_right = was.right;
          is_right = right_at turn right;
          parts = was.parts ∙ ap (λ (l : List ℕ). input_of turns ++ l) text;
          passes = passes_then n (events_of turns) (closing ++ events_in turn) start mid new was.passes passes;
          taken = taken;
          rest_is = rest_is;
          ends = ends;
          counted = counted;
          faults = λ v. sum_all n room start.as_read turns turn a d v was.right (right_at turn right) counted;
        };
        connections = connections ∙ was.connections;
      }

  pub served_ending : (ending : Ending) → length turns < 65536 → Serves n room (events_of turns) (Ok (Some ending)) stream rest new.input stores' mid new b d
      → (taken : List ℕ) → rest ≡ taken ++ new.input → Served n room (Ok ending) start new a d
  served_ending ending few did taken rest_is =
      served (Ok ending) did.turn did.closing did.right did.text did.passes (did.ends (length turns) few) did.counted did.connections taken rest_is

  pub served_stop : (stop : Stop) → length turns < 65536 → Serves n room (events_of turns) (Err stop) stream rest new.input stores' mid new b d
      → (taken : List ℕ) → rest ≡ taken ++ new.input → Served n room (Err stop) start new a d
  served_stop stop few did taken rest_is =
      served (Err stop) did.turn did.closing did.right did.text did.passes (did.ends (length turns) few) did.counted did.connections taken rest_is

  pub served_behind : (result : Result Ending Stop) → length turns ≡ 65536 → stream ≡ rest → KeepsVolumes mid new → new.connections ≡ mid.connections
      → NoneFalls b d → Limits result rest new.input → (taken : List ℕ) → rest ≡ taken ++ new.input → Served n room result start new a d
  served_behind result all same keeps connections falls ends taken rest_is =
      served result None [] tt same (passes_none n mid new keeps) (subst (λ (count : ℕ). IsEnd result count None [] rest new.input) (sym all) ends)
      falls connections taken rest_is

-- the input failed, or there was no memory, where only one byte more was asked for
pub limits_fault : (fault : HttpFault) (s : Stop) → s ≡ stop_of fault → (fault ≡ http.Input) ⊎ (fault ≡ http.OutOfMemory) → (rest left : List ℕ)
    → Limits (Err s) rest left
limits_fault fault s is which rest left = ⊎_elim
    (λ e. subst (λ (x : Stop). Limits (Err x) rest left) (sym (is ∙ ap stop_of e)) (omega arith, refl, refl, λ lt. absurd (omega (arith, lt))))
    (λ e. subst (λ (x : Stop). Limits (Err x) rest left) (sym (is ∙ ap stop_of e)) (inl (omega arith, refl)))
    which

-- there was no memory for the regions
pub served_none : (n : ℕ) (room : ℕ → ℕ) (w : Outside) (a : Counts) → Served n room (Err stop.OutOfMemory) w w a a
served_none n room w a = record {
  conversation = record {
    turns = [];
    final = None;
    closing = [];
    rest = w.input;
    are_right = tt;
    is_right = tt;
    parts = refl;
    passes = passes_none n w w (keeps_all w);
    taken = [];
    rest_is = refl;
    ends = inl (omega arith, refl);
    counted = falls_none a;
    faults = λ v. rises_none (side.Volume v) a a (falls_none a);
  };
  connections = refl;
}

-- told of equal things
pub serves_as : (m n : ℕ) (room' room : ℕ → ℕ) (before : Events) (r r' : Result (Option Ending) Stop) (stream rest left : List ℕ) (stores : List Store)
    (old new : Outside) (a b : Counts) → m ≡ n → room' ≡ room → r ≡ r' → Serves m room' before r stream rest left stores old new a b
    → Serves n room before r' stream rest left stores old new a b
serves_as m n room' room before r r' stream rest left stores old new a b same rooms is did =
    subst (λ (x : ℕ). Serves x room before r' stream rest left stores old new a b) same
    (subst (λ (x : ℕ → ℕ). Serves m x before r' stream rest left stores old new a b) rooms
    (subst (λ (x : Result (Option Ending) Stop). Serves m room' before x stream rest left stores old new a b) is did))
