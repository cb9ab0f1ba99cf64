-- What a scan tells, by what windows show.
use Rattle.std.proofs.Common.{◌≡◌, ◌≢◌, ◌⊎◌, ℕ, ◌+◌, ◌<◌, Result, Ok, Err, IfOk}
use Rattle.std.proofs.Common.{List, [], ◌∷◌, ◌++◌, length, take, drop, inl, inr, ⊎_elim, sym, ◌∙◌, ap, subst, arith, length-drop, take-append-drop}
use Rattle.std.proofs.lemmas.List.{length-take-le}
use Rattle.std.specs.Int.{to_be_bytes, w32}
use Rattle.s3r_world.specs.Image.{Image}
use Rattle.s3r_world.specs.Outside.{Outside, Looks, Counts}
use Rattle.s3r_world.specs.Moments.{looks_then}
use Rattle.s3r_journal.specs.declared.scanning.Header.TheVariants.{Missing, Right}
use Rattle.s3r_journal.specs.declared.scanning.Head.TheVariants.{Cut, Open}
use Rattle.s3r_journal.specs.declared.scanning.Scanned.{Scanned}
use Rattle.s3r_journal.specs.declared.scanning.Scanned.TheVariants.{Empty, End, Record}
use Rattle.s3r_journal.specs.declared.scanning.ScanFault.{ScanFault}
use Rattle.s3r_journal.specs.declared.scanning.ScanFault.TheVariants.{Volume, Damaged, OutOfMemory}
use Rattle.s3r_journal.specs.declared.window.Window.{Window}
use Rattle.s3r_journal.specs.Volume.{Front, IsEmptyVolume, StandsTo}
use Rattle.s3r_journal.specs.Scan.{damaged_at, end_at, one_record, found_in, finding, Answers, IsReadTo, ReadsOn, Permits, Scans, HasFailed}
use Rattle.s3r_journal.specs.Pieces.{IsHeader, IsHead, IsBody, IsThere}
use Rattle.s3r_journal.specs.Windows.{Shows}
use Rattle.s3r_journal.proofs.Finds.{found_closed, found_cut, found_open, found_record, record_long, record_cut}
use Rattle.s3r_journal.proofs.Finds.{first_empty, first_right, finds_first, finds_later}
use Rattle.s3r_journal.proofs.Fronts.{front_rest, front_more, front_ends, front_not_empty, header_read, refutes}

-- ---- a gate, a length and a body

pub there_of : (at n : ℕ) (rest : List ℕ) (result : Result Scanned ScanFault) → IsHead rest (Open n) → IsBody at n rest result → IsThere at rest result
there_of at n rest (Ok Empty) head body = body
there_of at n rest (Ok (End gate)) head body = absurd body
there_of at n rest (Ok (Record bytes next)) head body =
    let four = to_be_bytes w32 n in
    let behind = head.1.0 in
    let is : rest ≡ 1 ∷ four ++ behind = head.1.1 in
    let same : bytes.items ≡ take n behind = body.3 ∙ ap (λ (l : List ℕ). take n (drop 5 l)) is in
    let length_is : length bytes.items ≡ n = ap length same ∙ length-take-le n behind (omega (arith, body.2, ap length is)) in (
      omega (arith, body.0, length_is),
      omega (arith, body.1, length_is),
      (
        drop n behind,
        is ∙ ap (λ (m : ℕ). 1 ∷ to_be_bytes w32 m ++ behind) (sym length_is)
            ∙ ap (λ (l : List ℕ). 1 ∷ to_be_bytes w32 (length bytes.items) ++ l)
            (sym (take-append-drop n behind) ∙ ap (λ (l : List ℕ). l ++ drop n behind) (sym same)),
      ),
    )
there_of at n rest (Err (Volume u)) head body = body
there_of at n rest (Err (Damaged u offset)) head body = (body.0, inr (n, head, body.1))
there_of at n rest (Err OutOfMemory) head body = body

-- a call failed, or there was no memory
module _ (v : ℕ) (old new : Counts) where
  pub failed_body : (at n : ℕ) (rest : List ℕ) (e : ScanFault) → HasFailed v e old new → IsBody at n rest (Err e)
  failed_body at n rest (Volume u) failed = tt
  failed_body at n rest (Damaged u offset) failed = absurd failed
  failed_body at n rest OutOfMemory failed = tt

  pub failed_there : (at : ℕ) (rest : List ℕ) (e : ScanFault) → HasFailed v e old new → IsThere at rest (Err e)
  failed_there at rest (Volume u) failed = tt
  failed_there at rest (Damaged u offset) failed = absurd failed
  failed_there at rest OutOfMemory failed = tt

  pub failed_scans : (region from : ℕ) (a b : Outside) → Looks a b → (e : ScanFault) → HasFailed v e old new → Scans v region from (Err e) a b
  failed_scans region from a b looks (Volume u) failed = record { looks = looks; answer = tt; permits = tt; reads = λ h read. tt }
  failed_scans region from a b looks (Damaged u offset) failed = absurd failed
  failed_scans region from a b looks OutOfMemory failed = record { looks = looks; answer = tt; permits = tt; reads = λ h read. tt }

-- ---- what a scan finds

there_damaged : (at : ℕ) (rest : List ℕ) → IsHead rest Cut ⊎ ((n : ℕ) × IsHead rest (Open n) × ((16777216 < n) ⊎ (length rest < 5 + n)))
    → found_in at rest ≡ damaged_at at
there_damaged at rest (inl (inl none)) = ap (found_in at) none
there_damaged at rest (inl (inr (behind, short, is))) = ap (found_in at) is ∙ found_cut at behind short
there_damaged at rest (inr (n, head, inl long)) = ap (found_in at) head.1.1 ∙ found_open at n head.1.0 head.0
    ∙ record_long at n (to_be_bytes w32 n ++ head.1.0) long
there_damaged at rest (inr (n, head, inr cut)) =
    ap (found_in at) head.1.1 ∙ found_open at n head.1.0 head.0 ∙ record_cut at n (to_be_bytes w32 n ++ head.1.0) (omega (arith, cut, ap length head.1.1))

there_answers : (at : ℕ) (rest : List ℕ) (result : Result Scanned ScanFault) → IsThere at rest result → Answers (found_in at rest) result
there_answers at rest (Ok Empty) there = absurd there
there_answers at rest (Ok (End gate)) there = ap (found_in at) there.1.3 ∙ found_closed at there.1.0 there.1.1 there.1.2 ∙ ap end_at (sym there.0)
there_answers at rest (Ok (Record bytes next)) there =
    ap (found_in at) there.2.1 ∙ found_record at bytes.items there.2.0 there.1 ∙ ap (one_record bytes.items) (sym there.0)
there_answers at rest (Err (Volume u)) there = tt
there_answers at rest (Err (Damaged u offset)) there = there_damaged at rest there.1 ∙ ap damaged_at (sym there.0)
there_answers at rest (Err OutOfMemory) there = tt

there_reads : (region at : ℕ) (h : List (List ℕ)) (b : List ℕ) (front : Front region h at b) (result : Result Scanned ScanFault)
    → IsThere at (drop at b) result → ReadsOn region h at b result
there_reads region at h b front (Ok Empty) there = absurd there
there_reads region at h b front (Ok (End gate)) there = (
  there.0,
  front.format,
  subst (λ (e : ℕ). StandsTo region front.format h e b) (sym there.0)
      (front_ends region at h b front there.1.0 there.1.1 there.1.2 (sym (front_rest region at h b front) ∙ there.1.3)),
)
there_reads region at h b front (Ok (Record bytes next)) there =
    subst (λ (n : ℕ). Front region (h ++ bytes.items ∷ []) n b) (sym there.0)
    (front_more region at h b front bytes.items there.2.0 there.1 (sym (front_rest region at h b front) ∙ there.2.1))
there_reads region at h b front (Err (Volume u)) there = tt
there_reads region at h b front (Err (Damaged u offset)) there =
    refutes region at h b front at (ap (found_in at) (sym (front_rest region at h b front)) ∙ there_damaged at (drop at b) there.1)
there_reads region at h b front (Err OutOfMemory) there = tt

-- ---- a scan, of a world that is stable after it

module _ (v region : ℕ) (window : Window) (old new : Outside) (looks : Looks old new) (shows : Shows v window new) where
  abbrev before : List ℕ
  before = old.as_read.volume v

  same : new.as_read.volume v ≡ before
  same = ap (λ (i : Image). i.volume v) looks.as_read

  at_new : (h : List (List ℕ)) (from : ℕ) (result : Result Scanned ScanFault) → ReadsOn region h from before result
      → ReadsOn region h from (new.as_read.volume v) result
  at_new h from result reads = subst (λ (b : List ℕ). ReadsOn region h from b result) (sym same) reads

  empty_reads : (h : List (List ℕ)) (from : ℕ) → IsEmptyVolume before → IsReadTo region h from before → ReadsOn region h from before (Ok Empty)
  empty_reads h from empty (inl none) = (none.0, empty)
  empty_reads h from empty (inr front) = absurd (front_not_empty region from h before front empty)

  module _ (from : ℕ) (first : from ≡ 16) where
    pub scans_empty : IsHeader region (new.as_read.volume v) Missing → Scans v region from (Ok Empty) old new
    scans_empty missing =
        let empty : IsEmptyVolume before = subst IsEmptyVolume same missing in
        record {
          looks = looks;
          answer = finds_first region from before first ∙ first_empty region before empty;
          permits = record { stable = shows.stable; empty = missing };
          reads = λ h read. at_new h from (Ok Empty) (empty_reads h from empty read);
        }

  permits_there : (from : ℕ) (result : Result Scanned ScanFault) → IsThere from (drop from before) result → IfOk result (λ s. Permits v s new)
  permits_there from (Ok Empty) there = absurd there
  permits_there from (Ok (End gate)) there = record {
    stable = shows.stable;
    long = omega (arith, there.0, ap length there.1.3, length-drop from before, ap length same);
  }
  permits_there from (Ok (Record bytes next)) there = shows.stable
  permits_there from (Err fault) there = tt

  -- from here on, what has been read
  module _ (from : ℕ) (finds : finding region from before ≡ found_in from (drop from before)) (read_on : (h : List (List ℕ)) → IsReadTo region h from before
      → Front region h from before)
      (result : Result Scanned ScanFault) (there : IsThere from (drop from before) result) where
    scans_there : Scans v region from result old new
    scans_there = record {
      looks = looks;
      answer = subst (λ f. Answers f result) (sym finds) (there_answers from (drop from before) result there);
      permits = permits_there from result there;
      reads = λ h read. at_new h from result (there_reads region from h before (read_on h read) result there);
    }

  pub scans_later : (from : ℕ) (result : Result Scanned ScanFault) → from ≢ 16 → IsThere from (drop from before) result → Scans v region from result old new
  scans_later from result later there =
      scans_there from (finds_later region from before later) (λ h read. ⊎_elim (λ none. absurd (later none.1)) (λ front. front) read) result there

  -- behind the header
  module _ (from : ℕ) (first : from ≡ 16) (right : IsHeader region before Right) where
    begun : (h : List (List ℕ)) → IsReadTo region h from before → Front region h from before
    begun h (inl none) =
        subst (λ (k : List (List ℕ)). Front region k from before) (sym none.0)
        (subst (λ (n : ℕ). Front region [] n before) (sym first) (header_read region before right.0 right.1 right.2))
    begun h (inr front) = front

    scans_first : (result : Result Scanned ScanFault) → IsThere from (drop from before) result → Scans v region from result old new
    scans_first result there =
        scans_there from
        (finds_first region from before first ∙ first_right region before right.0 right.1 right.2 ∙ ap (λ (n : ℕ). found_in n (drop n before)) (sym first))
        begun result there

-- behind the header, which was read before
pub scans_right : (v region from : ℕ) (window : Window) (old mid new : Outside) → Looks old mid → Looks mid new → Shows v window new → from ≡ 16 →
    IsHeader region (mid.as_read.volume v) Right → (result : Result Scanned ScanFault) →
    IsThere from (drop from (mid.as_read.volume v)) result → Scans v region from result old new
scans_right v region from window old mid new looks more shows first right result there =
    let here : mid.as_read.volume v ≡ old.as_read.volume v = ap (λ (i : Image). i.volume v) looks.as_read in
    scans_first v region window old new (looks_then old mid new looks more) shows from first
    (subst (λ (b : List ℕ). IsHeader region b Right) here right) result
    (subst (λ (b : List ℕ). IsThere from (drop from b) result) here there)
