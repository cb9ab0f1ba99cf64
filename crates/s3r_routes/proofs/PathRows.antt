-- How a router searches rows of texts, and rows behind a parameter.
use Rattle.std.proofs.Common.{◌≡◌, ℕ, zero, suc, ◌-◌, ◌<◌, ◌==◌, Bool, true, false, cond, ◌&&◌, if◌then◌else◌, ltb, nat_eq, List, [], ◌∷◌, ◌++◌, length, drop}
use Rattle.std.proofs.Common.{Option, Some, None, refl, sym, ap, ◌∙◌, subst, arith}
use borrow.Author.Tests.{lt-ltb}
use Rattle.std.proofs.lemmas.Bool.{and_from}
use Rattle.std.proofs.lemmas.Bool.Decides.{nat_tests}
use Rattle.std.proofs.Math.ListN.{length-append}
use Rattle.std.specs.Str.{bytes_eq}
use Rattle.std.specs.Cmp.Lexicographic.{pointwise}
use Rattle.matchit.specs.Rows.{Rows, Seen, prepend, ends, level, rows, rows_of, empty_node, param_token, catch_all_token}
use Rattle.matchit.specs.Level.{IsText, AreSuffixes}
use Rattle.matchit.specs.Seek.{segment, has_slash, own, step, seek, first, param_step, after_param, cuts, longest_suffix}
use Rattle.matchit.proofs.SeekLemmas.{first-prefix, seek-empty, param_step-empty, or_else-none}
use Rattle.matchit.proofs.LevelLemmas.{level-nil, level-cons}
use Rattle.matchit.proofs.ParamLemmas.{after_param-end, after_param-stop, after_param-kid}
use Rattle.s3r_routes.specs.Target.{cut}
use Rattle.s3r_routes.proofs.Cuts.{cut_here, cut_later, PartsAre, parts}

-- ---- rows of texts alone

abbrev pub AreTexts : Rows → Type 0
AreTexts [] = Unit {0}
AreTexts ((text, key) ∷ rows) = IsText text × AreTexts rows

abbrev pub find_text : Rows → List ℕ → Option ℕ
find_text [] path = None
find_text ((text, key) ∷ rows) path = if bytes_eq path text then Some key else find_text rows path

own_text : (rows : Rows) → own rows ≡ find_text rows []
own_text [] = refl
own_text (([], key) ∷ rows) = refl
own_text ((b ∷ text, key) ∷ rows) = own_text rows

texts_next : (b : ℕ) (rows : Rows) → AreTexts rows → AreTexts (step b rows)
texts_next b [] h = tt
texts_next b (([], key) ∷ rows) h = texts_next b rows h.1
texts_next b ((x ∷ text, key) ∷ rows) h = by (x == b) (texts_next b rows h.1)
  where
    by : (v : Bool) → AreTexts (step b rows) → AreTexts (cond v ((text, key) ∷ step b rows) (step b rows))
    by true more = (h.0.1, more)
    by false more = more

-- no text goes on with a token that is no byte
no_token : (token : ℕ) (rows : Rows) → 255 < token → AreTexts rows → step token rows ≡ []
no_token token [] high h = refl
no_token token (([], key) ∷ rows) high h = no_token token rows high h.1
no_token token ((x ∷ text, key) ∷ rows) high h =
    let byte : x < 256 = h.0.0 in
    let other : (x == token) ≡ false = grind (arith, nat_tests) in
    rw other (no_token token rows high h.1)

text_next : (b : ℕ) (rows : Rows) (path : List ℕ) → find_text (step b rows) path ≡ find_text rows (b ∷ path)
text_next b [] path = refl
text_next b (([], key) ∷ rows) path = text_next b rows path
text_next b ((x ∷ text, key) ∷ rows) path = by (x == b) refl (text_next b rows path)
  where
    by : (v : Bool) → (x == b) ≡ v → find_text (step b rows) path ≡ find_text rows (b ∷ path)
        → find_text (cond v ((text, key) ∷ step b rows) (step b rows)) path ≡ (if nat_eq b x && bytes_eq path text then Some key else find_text rows (b ∷ path))
    by true e more =
        let same : nat_eq b x ≡ true = grind (arith, nat_tests) in
        rw (same, more) refl
    by false e more =
        let other : nat_eq b x ≡ false = grind (arith, nat_tests) in
        rw (other, more) refl

-- of rows of texts the one is found that is the path
pub text_first : (path : List ℕ) (rows : Rows) → AreTexts rows → first rows path ≡ find_text rows path
unfolding seek
text_first [] rows h = own_text rows
text_first (b ∷ path) rows h =
    rw (no_token param_token rows (omega arith) h, no_token catch_all_token rows (omega arith) h, text_first path (step b rows) (texts_next b rows h))
    (simp (param_step-empty (b ∷ path), seek-empty ((param_step {K = ℕ} [] (b ∷ path)).0 - 1) path, or_else-none (find_text (step b rows) path))
    (text_next b rows path))

-- ---- an end, and a parameter that takes all of the rest

abbrev pub tail_number : ℕ → ℕ → List ℕ → Option ℕ
tail_number end all [] = Some end
tail_number end all (b ∷ rest) = Some all

pub tail_first : (end all : ℕ) (path : List ℕ) → IsText path → first (level [] [] None (Some all) (Some end)) path ≡ tail_number end all path
tail_first end all [] h = level-nil [] [] [] None (Some all) (Some end) tt
tail_first end all (b ∷ path) h =
    level-cons [] [] [] None (Some all) (Some end) b path tt h.0
    ∙ simp (seek-empty 0 path, param_step-empty (b ∷ path), seek-empty ((param_step {K = ℕ} [] (b ∷ path)).0 - 1) path)

-- ---- a parameter up to a slash, and rows behind the slash

abbrev pub behind_slash : Rows → Seen
behind_slash tails = record { prefix = 47 ∷ []; tails = tails; height = 0 }

pub record AreTails (tails : Rows) : Type 0 where
  pub suffixes : AreSuffixes (behind_slash tails ∷ [])
  pub uncut : (seg : List ℕ) → cuts seg (47 ∷ []) ≡ false → longest_suffix seg (rows_of (behind_slash tails ∷ [])) ≡ []
  pub cut_off : (seg : List ℕ) → cuts seg (47 ∷ []) ≡ true → longest_suffix seg (rows_of (behind_slash tails ∷ [])) ≡ 47 ∷ []

abbrev pub by_parts : Rows → ℕ → List ℕ → Option (List ℕ) → Option ℕ
by_parts tails end [] rest = None
by_parts tails end (b ∷ name) None = Some end
by_parts tails end (b ∷ name) (Some rest) = first tails rest

no_last_at : (b : ℕ) (p : List ℕ) (v : Bool) → (b == 47) ≡ v → cond v true (has_slash p) ≡ false
    → ((m : ℕ) → has_slash p ≡ false → pointwise nat_eq (47 ∷ []) (drop m (segment p)) ≡ false)
    → (n : ℕ) → pointwise nat_eq (47 ∷ []) (drop n (cond v (b ∷ []) (b ∷ segment p))) ≡ false
no_last_at b p true e q more n = cc
no_last_at b p false e q more zero =
    let other : nat_eq 47 b ≡ false = grind (arith, nat_tests) in
    rw other refl
no_last_at b p false e q more (suc n) = more n q

-- with no slash no byte of the segment is one
no_last : (p : List ℕ) (n : ℕ) → has_slash p ≡ false → pointwise nat_eq (47 ∷ []) (drop n (segment p)) ≡ false
no_last [] zero h = refl
no_last [] (suc n) h = refl
no_last (b ∷ p) n h = no_last_at b p _ refl h (λ m q. no_last p m q) n

and_false : (a b : Bool) → b ≡ false → (a && b) ≡ false
and_false true b e = e
and_false false b e = refl

no_cut : (p : List ℕ) → has_slash p ≡ false → cuts (segment p) (47 ∷ []) ≡ false
no_cut p has =
    and_false (ltb 1 (length (segment p))) (pointwise nat_eq (47 ∷ []) (drop (length (segment p) - 1) (segment p))) (no_last p (length (segment p) - 1) has)

drop_name : (name rest : List ℕ) → drop (length name) (name ++ rest) ≡ rest
drop_name [] rest = refl
drop_name (b ∷ name) rest = drop_name name rest

cut_rest : (b : ℕ) (name rest : List ℕ) → drop (length (b ∷ (name ++ 47 ∷ [])) - 1) (b ∷ (name ++ 47 ∷ rest)) ≡ 47 ∷ rest
cut_rest b name rest =
    let long : length (b ∷ (name ++ 47 ∷ [])) - 1 ≡ suc (length name) = omega (arith, length-append name (47 ∷ [])) in
    ap (λ n. drop n (b ∷ (name ++ 47 ∷ rest))) long ∙ drop_name name (47 ∷ rest)

cut_true : (b : ℕ) (name : List ℕ) → cuts (b ∷ (name ++ 47 ∷ [])) (47 ∷ []) ≡ true
cut_true b name =
    let some : 1 < length (b ∷ (name ++ 47 ∷ [])) = omega (arith, length-append name (47 ∷ [])) in
    and_from _ _ (lt-ltb 1 (length (b ∷ (name ++ 47 ∷ []))) some) (subst (λ (l : List ℕ). pointwise nat_eq (47 ∷ []) l ≡ true) (sym (cut_rest b name [])) refl)

module _ (tails : Rows) (end : ℕ) (are : AreTails tails) where
  abbrev after : List ℕ → Option ℕ
  after path = after_param (rows_of (behind_slash tails ∷ []) ++ ends (Some end)) path

  after_name : (b : ℕ) (p name : List ℕ) (rest : Option (List ℕ)) → (b == 47) ≡ false → PartsAre p name rest
      → after (b ∷ p) ≡ by_parts tails end (b ∷ name) rest
  after_name b p name None e (same, seg, has) =
      let no : has_slash (b ∷ p) ≡ false = rw e has in
      after_param-end (behind_slash tails ∷ []) (Some end) b p are.suffixes (are.uncut (segment (b ∷ p)) (no_cut (b ∷ p) no)) no
  after_name b p name (Some rest) e (same, seg, has) =
      let whole : segment (b ∷ p) ≡ b ∷ (name ++ 47 ∷ []) = rw e (ap (λ s. b ∷ s) seg) in
      let yes : cuts (segment (b ∷ p)) (47 ∷ []) ≡ true = rw whole (cut_true b name) in
      let left : drop (length (segment (b ∷ p)) - 1) (b ∷ p) ≡ 47 ∷ rest = rw (whole, same) (cut_rest b name rest) in
      after_param-kid (behind_slash tails ∷ []) 0 empty_node (Some end) b p are.suffixes (omega arith) (sym (are.cut_off (segment (b ∷ p)) yes))
      ∙ ap (λ q. first (prepend (47 ∷ []) tails) q) left
      ∙ first-prefix (47 ∷ []) tails (47 ∷ rest) (omega arith, tt)

  -- the route that a path matches by a parameter at its start
  pub after_first : (path : List ℕ) → after path ≡ by_parts tails end (cut 47 path).0 (cut 47 path).1
  after_first [] = refl
  after_first (b ∷ p) = by (b == 47) refl
    where
      by : (v : Bool) → (b == 47) ≡ v → after (b ∷ p) ≡ by_parts tails end (cut 47 (b ∷ p)).0 (cut 47 (b ∷ p)).1
      by true e =
          let none : cuts (segment (b ∷ p)) (47 ∷ []) ≡ false = rw e refl in
          let has : has_slash (b ∷ p) ≡ true = rw e refl in
          after_param-stop (behind_slash tails ∷ []) (Some end) b p (are.uncut (segment (b ∷ p)) none) has
          ∙ ap (λ (c : List ℕ × Option (List ℕ)). by_parts tails end c.0 c.1) (sym (cut_here b p e))
      by false e =
          after_name b p (cut 47 p).0 (cut 47 p).1 e (parts p) ∙ ap (λ (c : List ℕ × Option (List ℕ)). by_parts tails end c.0 c.1) (sym (cut_later b p e))
