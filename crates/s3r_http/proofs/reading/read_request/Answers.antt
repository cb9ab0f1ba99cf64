use Rattle.std.proofs.Common.{◌≡◌, ◌⊎◌, ◌≤◌, ◌<◌, ◌+◌, ◌-◌, ◌∙◌, ◌++◌, Result, Option, IfErr, length, take, drop, sym, ap, subst, inl, inr, arith, List, ℕ, length-drop, refl}
use Rattle.std.proofs.lemmas.Result.{err_from_is_err_and, IfErr-weaker}
use Rattle.std.proofs.lemmas.List.{take-take, length-take-le}
use Rattle.s3r_http.specs.declared.head.Head.{Head}
use Rattle.s3r_http.specs.declared.message.HttpFault.{HttpFault}
use Rattle.s3r_http.specs.declared.message.HttpFault.TheVariants as fault
use Rattle.s3r_http.specs.declared.message.RawRequest.{RawRequest}
use Rattle.s3r_http.specs.Head.{BeginsTooLong, EndsInHead, HeadIs}
use Rattle.s3r_http.specs.Request.{BeginsNone}
use Rattle.s3r_http.specs.Refusals.{BeginsHead, EndsInBody, HeadCause, IsCause}
use Rattle.s3r_http.proofs.Framing.{front_taken, front_later, none_open, none_ended, spells_read, passed_over}
use Rattle.s3r_http.proofs.Causes.{front_cause, cause_none}
use Rattle.s3r_http.proofs.reading.read_request.Goals as goal

-- what a refusal is told as
abbrev IsRefused : List ℕ → HttpFault → Type 0
IsRefused stream f = (f ≡ fault.Input) ⊎ ((f ≡ fault.OutOfMemory) ⊎ BeginsNone stream)

refused : (r : Result (Option RawRequest) HttpFault) (stream : List ℕ) → IfErr r (λ f. IsCause f stream) → IfErr r (IsRefused stream)
refused r stream cause = IfErr-weaker r (λ f. IsCause f stream) (IsRefused stream) (λ f. cause_none f stream) cause

pub returns-in_err-length-clause-incomplete : goal.returns-in_err-length-clause-incomplete
returns-in_err-length-clause-incomplete g c = λ told input raw text rest spells begins.
    none_open _ c.in_err-length.ensures.waiting raw text rest spells begins

pub returns-in-Cut-clause-refused : goal.returns-in-Cut-clause-refused
returns-in-Cut-clause-refused g c = λ told.
    let stream = (c.read_head.ensures.told told).stream in
    let head = subst (λ (h : Head). HeadIs h (c.read_head.new.buffer ++ (g.W.World.outside c.read_head.new.world).input)) c.in-Cut.is
    (c.in_ok-length.ensures.head told) in
    cause_none fault.CutShort _ (inl (subst EndsInHead stream head))

pub returns-in-TooLong-clause-refused : goal.returns-in-TooLong-clause-refused
returns-in-TooLong-clause-refused g c = λ told.
    let stream = (c.read_head.ensures.told told).stream in
    let head = subst (λ (h : Head). HeadIs h (c.read_head.new.buffer ++ (g.W.World.outside c.read_head.new.world).input)) c.in-TooLong.is
    (c.in_ok-length.ensures.head told) in
    cause_none fault.HeadTooLong _ (subst BeginsTooLong stream head)

pub returns-in_err-plan-clause-cause : goal.returns-in_err-plan-clause-cause
returns-in_err-plan-clause-cause g c = λ told.
    let p = err_from_is_err_and c.from_residual-in_err-plan.result c.from_residual-in_err-plan.ensures.1 in
    let old = c.args.buffer.now ++ (g.W.World.outside c.args.world.now).input in
    let n = c.in-Found.length in
    let buffer = c.read_head.new.buffer in
    let input = (g.W.World.outside c.read_head.new.world).input in
    let head = subst (λ (h : Head). HeadIs h (buffer ++ input)) c.in-Found.is (c.in_ok-length.ensures.head told) in
    let slice = take n c.as_slice.result.now in
    let front = front_taken buffer input slice n head.0 head.1 (c.in_ok-length.ensures.taken n c.in-Found.is) (ap (take n) c.as_slice.ensures) in
    let begins = subst (λ (l : List ℕ). BeginsHead l slice) (c.read_head.ensures.told told).stream front in
    subst (λ (r : Result (Option RawRequest) HttpFault). IfErr r (λ f. IsCause f old)) (sym p.1)
    (front_cause p.0 old slice begins (subst (λ (f : HttpFault). HeadCause f slice) (sym p.2) c.in_err-plan.ensures.cause))

pub returns-in_err-plan-clause-refused : goal.returns-in_err-plan-clause-refused
returns-in_err-plan-clause-refused g c = λ told.
    refused c.from_residual-in_err-plan.result (c.args.buffer.now ++ (g.W.World.outside c.args.world.now).input) (returns-in_err-plan-clause-cause g c told)

pub returns-in_err-fill_to-clause-incomplete : goal.returns-in_err-fill_to-clause-incomplete
returns-in_err-fill_to-clause-incomplete g c = λ told failed raw text rest spells begins.
    let n = c.in-Found.length in
    let one = c.read_head.new.buffer in
    let input = (g.W.World.outside c.read_head.new.world).input in
    let two = c.fill_to.new.buffer in
    let head = subst (λ (h : Head). HeadIs h (one ++ input)) c.in-Found.is (c.in_ok-length.ensures.head told) in
    let taken = c.in_ok-length.ensures.taken n c.in-Found.is in
    let slice = take n c.as_slice.result.now in
    let front = front_taken one input slice n head.0 head.1 taken (ap (take n) c.as_slice.ensures) in
    let again : slice ≡ take n two = ap (take n) (c.as_slice.ensures ∙ sym c.fill_to.ensures.kept) ∙ take-take n (length one) two taken in
    let size : length slice ≡ n = ap length (ap (take n) c.as_slice.ensures) ∙ length-take-le n one taken in
    let plan = c.in_ok-plan.ensures.plan in
    let waiting : length two < n + c.in_ok-plan.plan.body = c.in_err-fill_to.ensures.waiting in
    (none_ended two (record {
      bytes = slice;
      begins = front_later (one ++ input) slice two n front again;
      head = plan.head;
      body =
          c.in_ok-plan.plan.body;
      asks = plan.asks;
      short = omega (arith, size, waiting);
    })).1
    raw text rest spells begins

pub returns-then-not-branch-clause-cause : goal.returns-then-not-branch-clause-cause
returns-then-not-branch-clause-cause g c = λ told.
    let n = c.in-Found.length in
    let buffer = c.read_head.new.buffer in
    let input = (g.W.World.outside c.read_head.new.world).input in
    let head = subst (λ (h : Head). HeadIs h (buffer ++ input)) c.in-Found.is (c.in_ok-length.ensures.head told) in
    let taken = c.in_ok-length.ensures.taken n c.in-Found.is in
    let slice = take n c.as_slice.result.now in
    let front = front_taken buffer input slice n head.0 head.1 taken (ap (take n) c.as_slice.ensures) in
    let size : length slice ≡ n = ap length (ap (take n) c.as_slice.ensures) ∙ length-take-le n buffer taken in
    let plan = c.in_ok-plan.ensures.plan in
    let short = c.in_ok-fill_to.ensures.short told c.if-not-branch.true in
    let filled = (c.fill_to.ensures.told told).stream in
    inr (subst EndsInBody (c.read_head.ensures.told told).stream
    (record {
      bytes = slice;
      begins = front;
      head = plan.head;
      body = c.in_ok-plan.plan.body;
      asks = plan.asks;
      short =
          omega (arith, size, short, ap length filled);
    }))

pub returns-then-not-branch-clause-refused : goal.returns-then-not-branch-clause-refused
returns-then-not-branch-clause-refused g c = λ told.
    cause_none fault.CutShort (c.args.buffer.now ++ (g.W.World.outside c.args.world.now).input) (returns-then-not-branch-clause-cause g c told)

pub returns-clause-told : goal.returns-clause-told
returns-clause-told g c = λ told.
    let n = c.in-Found.length in
    let k = c.in_ok-plan.plan.body in
    let one = c.read_head.new.buffer in
    let input = (g.W.World.outside c.read_head.new.world).input in
    let two = c.fill_to.new.buffer in
    let later = (g.W.World.outside c.fill_to.new.world).input in
    let raw = c.raw_of.result in
    let stream = (c.read_head.ensures.told told).stream in
    let filled = (c.fill_to.ensures.told told).stream in
    let head = subst (λ (h : Head). HeadIs h (one ++ input)) c.in-Found.is (c.in_ok-length.ensures.head told) in
    let taken = c.in_ok-length.ensures.taken n c.in-Found.is in
    let slice = take n c.as_slice.result.now in
    let front = front_taken one input slice n head.0 head.1 taken (ap (take n) c.as_slice.ensures) in
    let again : slice ≡ take n two = ap (take n) (c.as_slice.ensures ∙ sym c.fill_to.ensures.kept) ∙ take-take n (length one) two taken in
    let enough : n + k ≤ length two = c.in_ok-fill_to.ensures.enough c.if-not-branch.false in
    let span : n + k - n ≡ k = omega (arith) in
    let body : raw.body ≡ take k (drop n two) = c.raw_of.ensures.body ∙ c.in_ok-body.ensures ∙ ap (λ (m : ℕ). take m (drop n c.as_slice-2.result.now)) span
    ∙ ap (λ (l : List ℕ). take k (drop n l)) c.as_slice-2.ensures in
    let size : length raw.body ≡ k = ap length body ∙ length-take-le k (drop n two) (omega (arith, enough, length-drop n two)) in (
      slice ++ raw.body,
      spells_read (one ++ input) slice c.in_ok-plan.plan raw.body raw front c.in_ok-plan.ensures.plan
          (record {
            method = c.raw_of.ensures.method;
            target = c.raw_of.ensures.target;
            fields = c.raw_of.ensures.fields;
            body = refl;
            last =
                c.raw_of.ensures.last;
          }) size,
      sym stream ∙ sym filled ∙ passed_over two slice raw.body c.pass.new.self later n k again body c.pass.ensures,
    )
