use Rattle.std.proofs.Common.{◌≡◌, ◌∙◌, ◌+◌, ◌≤◌, ℕ, true, false, Bor, List, [], ◌∷◌, ◌++◌, Some, Option, Ok, Result, length, inr, sym, ap, subst, rules, arith}
use Rattle.std.proofs.lemmas.Result.{err_from_is_err_and}
use Rattle.csv.specs.Machine.{ends_at_end}
use Rattle.csv.specs.Reading.{records, records_from, default_config, strip_bom}
use Rattle.csv.specs.Records.{fields_of}
use Rattle.csv.specs.declared.parser.State.{State}
use Rattle.s3r_lines.specs.declared.object.ObjectRef.{ObjectRef}
use Rattle.s3r_manifest.specs.declared.fault.ManifestFault.{ManifestFault}
use Rattle.s3r_manifest.specs.Faults.{Fails}
use Rattle.s3r_manifest.proofs.Records.{stands-more, stands-end}
use Rattle.s3r_manifest.proofs.Left.{left-all, left-more, left-wrong, left-many, left-none, of-short, is-found, is-missing}
use Rattle.s3r_manifest.proofs.reading.read.Goals as goal

abbrev known : Bor (List ℕ) → Option (List ℕ)
known s = Some s.now

pub loop-done-init : goal.loop-done-init
loop-done-init c =
    let from = c.from_reader-reader.ensures in
    let e = c.has_headers.ensures in
    let f = c.flexible.ensures in
    let text = strip_bom c.args.bytes.now in (
      records default_config text,
      record {
        plain = rw (f, e) at from.trim ∙ c.new.ensures.trim;
        ready = inr (inr (rw (f, e) at from.has_headers, from.headers));
        config = rw (f, e) at from.config ∙ c.new.ensures.config;
        rests = ap ends_at_end from.state;
        left = text;
        source = from.source;
        fuel = length text + 1;
        enough = omega arith;
        is = ap (λ (s : State). records_from default_config (length text + 1) s text) (sym from.state);
      },
      left-all c.args.versions c.new-lines.result.items (records default_config text) c.new-lines.ensures.items,
    )

pub returns-then-not-found : goal.returns-then-not-found
returns-then-not-found c =
    let inv = c.loop-done.invariant in
    let found : c.in-Ok.found ≡ false = search (rules, is-missing) in
    let reads = rw found at (c.in-Ok.ensures.reads inv.1.plain inv.1.ready) in
    let read = c.read_byte_record.new in
    let none = stands-end known c.loop-done.reader read.self (fields_of read.row) inv.0 inv.1 reads in
    let short : length c.args.bytes.now ≤ 4194304 = omega arith in
    of-short c.args.versions c.args.bytes.now short ∙ left-none inv.2 none ∙ ap Ok (sym c.from_vec.ensures)

pub returns-in_err-line_at : goal.returns-in_err-line_at
returns-in_err-line_at c =
    let inv = c.loop-done.invariant in
    let found : c.in-Ok.found ≡ true = search (rules, is-found) in
    let reads = rw found at (c.in-Ok.ensures.reads inv.1.plain inv.1.ready) in
    let read = c.read_byte_record.new in
    let step = stands-more known c.loop-done.reader read.self (fields_of read.row) inv.0 inv.1 reads (c.in-Ok.ensures.ready inv.1.plain) in
    let few : c.loop-done.done + 1 ≤ 20000 = omega arith in
    let short : length c.args.bytes.now ≤ 4194304 = omega arith in
    let fault = c.in_err-line_at.field-0.0 in
    let p = err_from_is_err_and c.from_residual.result c.from_residual.ensures.1 in
    rw (p.1, p.2)
    (subst (λ (asked : Result (List ObjectRef) ManifestFault). Fails fault asked) (sym (of-short c.args.versions c.args.bytes.now short))
    (left-wrong inv.2 (fields_of read.row) step.0 fault step.1 few c.in_err-line_at.ensures))

pub loop-done-preserved : goal.loop-done-preserved
loop-done-preserved c =
    let inv = c.loop-done.invariant in
    let found : c.in-Ok.found ≡ true = search (rules, is-found) in
    let reads = rw found at (c.in-Ok.ensures.reads inv.1.plain inv.1.ready) in
    let read = c.read_byte_record.new in
    let step = stands-more known c.loop-done.reader read.self (fields_of read.row) inv.0 inv.1 reads (c.in-Ok.ensures.ready inv.1.plain) in
    let few : c.loop-done.done + 1 ≤ 20000 = omega arith in
    let line = c.in_ok-line_at.field-0 in
    let pushed : c.push.new.self.items ≡ c.loop-done.lines.items ++ line ∷ [] = search rules in
    (step.0, step.2, left-more inv.2 (fields_of read.row) step.0 line c.push.new.self.items step.1 few c.in_ok-line_at.ensures pushed)

pub returns-then-more : goal.returns-then-more
returns-then-more c =
    let inv = c.loop-done.invariant in
    let read = c.read_byte_record-2.new in
    let ensures = c.in-Ok-read_byte_record.ensures in
    let reads = rw c.if-more.true at (ensures.reads inv.1.plain inv.1.ready) in
    let step = stands-more known c.loop-done.reader read.self (fields_of read.row) inv.0 inv.1 reads (ensures.ready inv.1.plain) in
    let many : 20000 ≤ c.loop-done.done = omega arith in
    let short : length c.args.bytes.now ≤ 4194304 = omega arith in
    of-short c.args.versions c.args.bytes.now short ∙ left-many inv.2 (fields_of read.row) step.0 step.1 many

pub returns : goal.returns
returns c =
    let inv = c.loop-done.invariant in
    let read = c.read_byte_record-2.new in
    let reads = rw c.if-more.false at (c.in-Ok-read_byte_record.ensures.reads inv.1.plain inv.1.ready) in
    let none = stands-end known c.loop-done.reader read.self (fields_of read.row) inv.0 inv.1 reads in
    let short : length c.args.bytes.now ≤ 4194304 = omega arith in
    of-short c.args.versions c.args.bytes.now short ∙ left-none inv.2 none ∙ ap Ok (sym c.from_vec-2.ensures)
