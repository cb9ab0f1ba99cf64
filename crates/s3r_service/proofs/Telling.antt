-- One request, from its step to the last byte of its answer.
use Rattle.std.proofs.Common.{◌+◌, ◌≡◌, ◌⊎◌, ℕ, Bool, true, false, cond, List, [], ◌∷◌, ◌++◌, length, take, drop, Option, Some, None, Result, Ok, Err, IfOk, OnOk, Vec, refl, sym, ◌∙◌, ap, subst, inl, inr, ⊎_elim, arith}
use Rattle.std.specs.declared.alloc.Global.{Global}
use Rattle.std.specs.declared.alloc.AllocError.{AllocError}
use Rattle.std.proofs.lemmas.List.{append-nil, take-append-drop}
use Rattle.s3r_world.specs.Image.{Image}
use Rattle.s3r_world.specs.declared.world.Side.TheVariants as side
use Rattle.s3r_world.specs.Outside.{Outside, Counts, NoneFalls, KeepsVolumes}
use Rattle.s3r_world.specs.Moments.{keeps_then, falls_then, rises_none, rises_before}
use Rattle.s3r_journal.proofs.Elsewhere.{left_keeps}
use Rattle.s3r_store.specs.declared.loaded_region.LoadedRegion.{LoadedRegion}
use Rattle.s3r_store.specs.declared.store.Store.{Store}
use Rattle.s3r_desk.specs.declared.fault.DeskFault.{DeskFault}
use Rattle.s3r_desk.specs.declared.request.Request.{Request}
use Rattle.s3r_desk.specs.declared.request.Answer.{Answer}
use Rattle.s3r_desk.specs.Events.{answered, Events}
use Rattle.s3r_desk.specs.Keeping.{IsHeld, Keeps}
use Rattle.s3r_desk.specs.Copying.{attempts_about}
use Rattle.s3r_desk.specs.Responds.{Responds, AsRead}
use Rattle.s3r_desk.proofs.Keeps.{keeps_left}
use Rattle.s3r_http.specs.declared.message.RawRequest.{RawRequest}
use Rattle.s3r_http.specs.Request.{SpellsRequest, BeginsNone}
use Rattle.s3r_api.specs.declared.problem.Problem.{Problem}
use Rattle.s3r_api.specs.Problems.{Fails, problem_of}
use Rattle.s3r_api.specs.Texts.{problem_text}
use Rattle.s3r_http.specs.declared.message.HttpFault.{HttpFault}
use Rattle.s3r_http.specs.declared.message.HttpFault.TheVariants as http
use Rattle.s3r_http.specs.Refusals.{IsCause}
use Rattle.s3r_api.specs.Request.{request_of}
use Rattle.s3r_service.specs.declared.stop.Ending.{Ending}
use Rattle.s3r_service.specs.declared.stop.Ending.TheVariants.{Over, Refused}
use Rattle.s3r_service.specs.declared.stop.Stop.{Stop}
use Rattle.s3r_service.specs.declared.stop.Stop.TheVariants as stop
use Rattle.s3r_service.specs.Sends.{Sends}
use Rattle.s3r_service.specs.Passing.{Passes}
use Rattle.s3r_service.specs.Turns.{Outcome, request_came, Turn, answer_to, reply_of, is_last, IsStepOf, IsCounted, IsAnswered, events_in, fails_at}
use Rattle.s3r_service.specs.Served.{stop_of, IsRefused, IsIncomplete}
use Rattle.s3r_service.specs.Serving.{Says, Replies, AnswersOne, EndsOne, Serves}
use Rattle.s3r_service.proofs.Fronts.{sends_none}
use Rattle.s3r_service.proofs.Passing.{passes_none, passes_then, passes_happens, passes_sends, keeps_all}
use Rattle.s3r_service.proofs.Silent.{turn_silent}

-- ---- a text, put out

pub says_none : (text : List ℕ) (w : Outside) → Says text (Err stop.OutOfMemory) w w
says_none text w = record {
  sent = [];
  more = text;
  front = refl;
  whole = tt;
  unsaid = λ e. refl;
  passes = λ n. passes_sends n text 0 w w (sends_none text w);
  left = λ q. left_keeps q w w (keeps_all w);
  input = record { input = refl; connections = refl };
}

module _ (text : List ℕ) (count : ℕ) (a b : Outside) (put : Sends text count a b) where
  said : (result : Result (Unit {0}) Stop) → OnOk result (drop count text ≡ []) → (result ≡ Err stop.OutOfMemory → take count text ≡ []) → Says text result a b
  said result whole unsaid = record {
    sent = take count text;
    more = drop count text;
    front = sym (take-append-drop count text);
    whole = whole;
    unsaid = unsaid;
    passes = λ n. passes_sends n text count a b put;
    left = λ q. record { as_read = put.as_read.volumes q; images = λ c now. let from = put.images c now in (from.0, from.1, from.2.volumes q) };
    input = put.input;
  }

  pub says_front : Says text (Err stop.Output) a b
  says_front = said (Err stop.Output) tt (λ e. absurd cc)

  pub says_all : drop count text ≡ [] → Says text (Ok tt) a b
  says_all whole = said (Ok tt) whole (λ e. absurd cc)

-- ---- a step, and its answer's text

-- no count has fallen since
counted_before : (outcome : Outcome) (step : Events) (a b d : Counts) → NoneFalls b d → IsCounted outcome step a b → IsCounted outcome step a d
counted_before outcome step a b d falls counted v =
    rises_before (attempts_about v step + fails_at v outcome) (side.Volume v) a b d (counted v) falls

pub falls_none : (a : Counts) → NoneFalls a a
falls_none a = record { most = refl; volume = λ u. omega arith; input = omega arith; output = omega arith; door = omega arith }

module _ (before : Events) (room : ℕ → ℕ) (raw : RawRequest) (result : Result (Vec ℕ Global) AllocError) (a b : List Store) (old new : Outside) (c d : Counts)
    (falls : NoneFalls c d) where
  pub replies_step : (request : Request) (answer : Result Answer DeskFault) → request_of raw ≡ Ok request
      → Responds before request answer room a b old new c d
      → IfOk result (λ text. text.items ≡ answer_to raw (Ok answer)) → Replies (length a) room before raw result b old new c d
  replies_step request answer is did reply = record {
    outcome = Ok answer;
    step = did.events;
    is = (request, is, did.turn);
    reply = reply;
    passes = passes_happens (length a) did.events old new (turn_silent (length a) room old.as_read before request answer did.events did.turn)
        did.happens;
    keeps = did.keeps;
    input = did.happens.input;
    counted = did.counted;
    counts = falls;
  }

pub replies_problem : (before : Events) (room : ℕ → ℕ) (raw : RawRequest) (result : Result (Vec ℕ Global) AllocError) (a : List Store) (w : Outside)
    (c : Counts) (problem : Problem) → Fails problem (request_of raw) → Keeps before a w
    → IfOk result (λ text. text.items ≡ answer_to raw (Err problem)) → Replies (length a) room before raw result a w w c c
replies_problem before room raw result a w c problem fails keeps reply = record {
  outcome = Err problem;
  step = [];
  is = (fails, refl);
  reply = reply;
  passes = passes_none (length a) w w (keeps_all w);
  keeps = keeps;
  input = record { input = refl; connections = refl };
  counted = λ v. rises_none (side.Volume v) c c (falls_none c);
  counts = falls_none c;
}

-- ---- a step, answered

held_answered : (n : ℕ) (text : List ℕ) (events : Events) (r : ℕ) (o : Option LoadedRegion) (w : Outside) → IsHeld n events r o w
    → IsHeld n (answered text ∷ events) r o w
held_answered n text events r None w is = is
held_answered n text events r (Some held) w is = is

pub keeps_answered : (text : List ℕ) (events : Events) (stores : List Store) (w : Outside) → Keeps events stores w → Keeps (answered text ∷ events) stores w
keeps_answered text events stores w keeps r s get = held_answered s.regions text events r s.held w (keeps r s get)

module _ (n : ℕ) (room : ℕ → ℕ) (before : Events) (raw : RawRequest) (reply : Result (Vec ℕ Global) AllocError) (stores : List Store) (old mid new : Outside)
    (a b d : Counts) (falls : NoneFalls b d) where
  pub answers_one : (did : Replies n room before raw reply stores old mid a b) (result : Result (Unit {0}) Stop)
      → Says (answer_to raw did.outcome) result mid new → AnswersOne n room before raw result stores old new a d
  answers_one did result says = record {
    outcome = did.outcome;
    step = did.step;
    sent = says.sent;
    more = says.more;
    is = did.is;
    front = says.front;
    whole = says.whole;
    unsaid = says.unsaid;
    passes = passes_then n did.step (answered says.sent ∷ []) old mid new did.passes (says.passes n);
    keeps = keeps_answered says.sent (did.step ++ before) stores new (keeps_left (did.step ++ before) stores mid new says.left did.keeps);
    input = keeps_then old mid new did.input says.input;
    counted = counted_before did.outcome did.step a b d falls did.counted;
    counts = falls_then a b d did.counts falls;
  }

-- ---- a request, taken and answered

module _ (n : ℕ) (room room' : ℕ → ℕ) (before : Events) (raw : RawRequest) (stream text input : List ℕ) (r : Result (Unit {0}) Stop) (stores : List Store)
    (old mid new : Outside) (a b d : Counts)
    (rooms : room' ≡ room) (falls : NoneFalls a b) (reads : KeepsVolumes old mid) (connections : mid.connections ≡ old.connections)
    (spells : SpellsRequest raw text) (is : stream ≡ text ++ (input ++ mid.input)) (did : AnswersOne n room' before raw r stores mid new b d) where
  abbrev pub turn : Turn
  turn = record { occasion = request_came raw text did.outcome; step = did.step; sent = did.sent; before = b; after = d }

  right : IsAnswered n room before old.as_read turn
  right = record {
    comes = (
      spells,
      subst (λ (x : ℕ → ℕ). IsStepOf n x before old.as_read (request_of raw) did.outcome did.step) rooms
          (subst (λ (c : Image). IsStepOf n room' before c (request_of raw) did.outcome did.step) reads.as_read did.is),
    );
    more = did.more;
    front = did.front;
    counted = did.counted;
    counts = did.counts;
  }

  pub serves_turn : (result : Result (Option Ending) Stop) → EndsOne result (Some turn) [] (input ++ new.input) new.input
      → Serves n room before result stream (input ++ new.input) new.input stores old new a d
  serves_turn result ends = record {
    turn = Some turn;
    closing = [];
    right = right;
    text = is ∙ ap (λ (l : List ℕ). text ++ (input ++ l)) (sym did.input.input);
    passes = subst (λ (l : Events). Passes n l old new) (append-nil (events_in (Some turn)))
        (passes_then n [] (events_in (Some turn)) old mid new (passes_none n old mid reads) did.passes);
    keeps = did.keeps;
    ends = ends;
    counted = (falls, falls_none d);
    connections = did.input.connections ∙ connections;
  }

-- nothing was taken
module _ (n : ℕ) (room : ℕ → ℕ) (before : Events) (stream rest left : List ℕ) (stores : List Store) (old mid new : Outside) (a d : Counts)
    (falls : NoneFalls a d) (reads : KeepsVolumes old mid) (connections : mid.connections ≡ old.connections) (same : stream ≡ rest)
    (keeps : Keeps before stores old) where
  at_mid : Keeps before stores mid
  at_mid = keeps_left before stores old mid (λ q. left_keeps q old mid reads) keeps

  pub serves_none : (result : Result (Option Ending) Stop) → EndsOne result None [] rest left → Serves n room before result stream rest left stores old mid a d
  serves_none result ends = record {
    turn = None;
    closing = [];
    right = tt;
    text = same;
    passes = passes_none n old mid reads;
    keeps = at_mid;
    ends = ends;
    counted = falls;
    connections = connections;
  }

  -- and the answer to what stands there put out
  pub serves_closing : (result : Result (Option Ending) Stop) (text : List ℕ) (r : Result (Unit {0}) Stop) (says : Says text r mid new)
      → EndsOne result None (answered says.sent ∷ []) rest left → Serves n room before result stream rest left stores old new a d
  serves_closing result text r says ends = record {
    turn = None;
    closing = answered says.sent ∷ [];
    right = tt;
    text = same;
    passes = passes_then n [] (answered says.sent ∷ []) old mid new (passes_none n old mid reads) (says.passes n);
    keeps = keeps_answered says.sent before stores new (keeps_left before stores mid new says.left at_mid);
    ends = ends;
    counted = falls;
    connections = says.input.connections ∙ connections;
  }

-- ---- how one request ends the run, or doesn't

module _ (t : Turn) (more rest left : List ℕ) (front : reply_of t.occasion ≡ t.sent ++ more) (whole : more ≡ []) where
  all_sent : t.sent ≡ reply_of t.occasion
  all_sent = sym (front ∙ ap (λ (l : List ℕ). t.sent ++ l) whole ∙ append-nil t.sent)

  pub ends_answered : (last : Bool) → is_last t.occasion ≡ last → (o : Option Ending) → o ≡ cond last (Some Over) None → EndsOne (Ok o) (Some t) [] rest left
  ends_answered true is o e = subst (λ (x : Option Ending). EndsOne (Ok x) (Some t) [] rest left) (sym e) (λ count lt. (refl, inr (lt, t, refl, all_sent, is)))
  ends_answered false is o e = subst (λ (x : Option Ending). EndsOne (Ok x) (Some t) [] rest left) (sym e) (refl, t, refl, (all_sent, is))

pub ends_cut : (s : Stop) → (s ≡ stop.Output) ⊎ (s ≡ stop.OutOfMemory) → (t : Turn) → (s ≡ stop.OutOfMemory → t.sent ≡ []) → (rest left : List ℕ)
    → EndsOne (Err s) (Some t) [] rest left
ends_cut s which t unsaid rest left = ⊎_elim
    (λ e. subst (λ (x : Stop). EndsOne (Err x) (Some t) [] rest left) (sym e) (λ count lt. (lt, inl (refl, refl))))
    (λ e. subst (λ (x : Stop). EndsOne (Err x) (Some t) [] rest left) (sym e) (λ count lt. (lt, refl, unsaid e)))
    which

-- a refusal is answered by one text
pub refused_by : (fault : HttpFault) (problem : Problem) (stream rest : List ℕ) (r : Result (Unit {0}) Stop) (a b : Outside) → problem_of fault ≡ Some problem
    → IsCause fault stream → (fault ≡ http.Input) ⊎ ((fault ≡ http.OutOfMemory) ⊎ BeginsNone stream) → stream ≡ rest
    → (says : Says (problem_text problem false true) r a b) → IsRefused rest (answered says.sent ∷ [])
refused_by fault problem stream rest r a b named cause which same says = record {
  fault = fault;
  problem = problem;
  named = named;
  cause = subst (λ (l : List ℕ). IsCause fault l) same cause;
  none = subst (λ (l : List ℕ). BeginsNone l) same (⊎_elim
      (λ e. let no : None ≡ Some problem = sym (ap problem_of e) ∙ named in absurd cc)
      (λ other. ⊎_elim (λ e. let no : None ≡ Some problem = sym (ap problem_of e) ∙ named in absurd cc) (λ none. none) other)
      which);
  sent = says.sent;
  more = says.more;
  front = says.front;
  closing_is = refl;
}

pub ends_refused : (fault : HttpFault) (problem : Problem) (stream rest left : List ℕ) (a b : Outside) → problem_of fault ≡ Some problem
    → IsCause fault stream → (fault ≡ http.Input) ⊎ ((fault ≡ http.OutOfMemory) ⊎ BeginsNone stream) → stream ≡ rest
    → (says : Says (problem_text problem false true) (Ok tt) a b) → EndsOne (Ok (Some Refused)) None (answered says.sent ∷ []) rest left
unfolding refused_by
ends_refused fault problem stream rest left a b named cause which same says count lt =
    (lt, refl, refused_by fault problem stream rest (Ok tt) a b named cause which same says, says.whole)

-- one answer has one text
sent_is : (a b : List ℕ) → answered a ∷ [] ≡ answered b ∷ [] → a ≡ b
sent_is a b same = cc

pub ends_refusal_cut : (s : Stop) → (s ≡ stop.Output) ⊎ (s ≡ stop.OutOfMemory) → (text rest left : List ℕ) (a b : Outside) (says : Says text (Err s) a b)
    → IsRefused rest (answered says.sent ∷ []) → EndsOne (Err s) None (answered says.sent ∷ []) rest left
ends_refusal_cut s which text rest left a b says refused = ⊎_elim
    (λ e. subst (λ (x : Stop). EndsOne (Err x) None (answered says.sent ∷ []) rest left) (sym e) (λ count lt. (lt, inr (refl, refused))))
    (λ e. subst (λ (x : Stop). EndsOne (Err x) None (answered says.sent ∷ []) rest left) (sym e)
    (λ count lt. inr (lt, refused, sent_is refused.sent says.sent (sym refused.closing_is) ∙ says.unsaid (ap (λ (x : Stop). Err x) e))))
    which

-- nothing is read on, where nothing is wrong with the bytes
pub ends_unread : (fault : HttpFault) (s : Stop) (taken left : List ℕ) → problem_of fault ≡ None → s ≡ stop_of fault
    → (fault ≡ http.Input → IsIncomplete taken) → EndsOne (Err s) None [] (taken ++ left) left
ends_unread http.Input s taken left none is incomplete =
    subst (λ (x : Stop). EndsOne (Err x) None [] (taken ++ left) left) (sym is)
    (λ count lt. (omega (arith, lt), refl, refl, λ few. (taken, refl, incomplete refl)))
ends_unread http.OutOfMemory s taken left none is incomplete = subst (λ (x : Stop). EndsOne (Err x) None [] (taken ++ left) left) (sym is)
    (λ count lt. inl (omega (arith, lt), refl))
ends_unread http.BadHead s taken left none is incomplete = absurd cc
ends_unread http.HeadTooLong s taken left none is incomplete = absurd cc
ends_unread http.BadLength s taken left none is incomplete = absurd cc
ends_unread http.EntityTooLarge s taken left none is incomplete = absurd cc
ends_unread http.NotImplemented s taken left none is incomplete = absurd cc
ends_unread http.CutShort s taken left none is incomplete = absurd cc
