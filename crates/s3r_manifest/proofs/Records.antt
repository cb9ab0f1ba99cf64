-- What csv's reader takes from a text, record by record.
use Rattle.std.proofs.Common.{◌≡◌, ℕ, zero, suc, ◌<◌, ◌≤◌, Bool, true, false, cond, ◌||◌, ◌==◌, List, [], ◌∷◌, ◌++◌, length, Option, Some, None, inl, refl, sym, ap, subst, ◌∙◌, arith}
use Rattle.csv.specs.Machine.{Read, next_record, step, in_field, start_field, start_record, is_end, ends_at_end, fields_after, field_after}
use Rattle.csv.specs.Reading.{default_config, records_from, Reached, Ready, ReadRecord, source_of}
use Rattle.csv.specs.declared.reader.Trim.TheVariants as trim
use Rattle.csv.specs.declared.parser.State.{State}
use Rattle.csv.specs.declared.parser.State.TheVariants as st
use Rattle.csv.specs.declared.parser.Action.{Action}
use Rattle.csv.specs.declared.parser.Action.TheVariants as act
use Rattle.csv.specs.declared.reader.Reader.{Reader}
use Rattle.csv.proofs.ReadFacts.{rows-more, rows-end}
use Rattle.s3r_manifest.specs.Lines.{Row}

-- what a byte leads to
abbrev to : State → ℕ → State
to s c = (step default_config s c).0

abbrev by : State → ℕ → Action
by s c = (step default_config s c).1

-- ---- a byte that ends a record leaves a state at which the text may end

end-field : (c : ℕ) → is_end (in_field default_config c).1 ≡ true → ends_at_end (in_field default_config c).0 ≡ false
end-field c = go (c == 44) ((c == 13) || (c == 10)) (c == 13)
  where
    pick : Bool → Bool → Bool → State × Action
    pick comma end cr = cond comma (st.StartField, act.EndField) (cond end (cond cr st.AfterCr st.StartRecord, act.EndRecord) (st.InField, act.Copy))

    go : (comma end cr : Bool) → is_end (pick comma end cr).1 ≡ true → ends_at_end (pick comma end cr).0 ≡ false
    go true end cr h = cc
    go false true true h = refl
    go false true false h = refl
    go false false cr h = cc

either : (b : Bool) (x y : State × Action) → (is_end x.1 ≡ true → ends_at_end x.0 ≡ false) → (is_end y.1 ≡ true → ends_at_end y.0 ≡ false)
    → is_end (cond b x y).1 ≡ true → ends_at_end (cond b x y).0 ≡ false
either true x y p q = p
either false x y p q = q

end-start_field : (c : ℕ) → is_end (start_field default_config c).1 ≡ true → ends_at_end (start_field default_config c).0 ≡ false
end-start_field c = either (c == 34) (st.InQuoted, act.Skip) (in_field default_config c) (λ h. cc) (end-field c)

end-start_record : (c : ℕ) → is_end (start_record default_config c).1 ≡ true → ends_at_end (start_record default_config c).0 ≡ false
end-start_record c = either ((c == 13) || (c == 10)) (st.StartRecord, act.Skip) (start_field default_config c) (λ h. cc) (end-start_field c)

end-state : (s : State) (c : ℕ) → is_end (by s c) ≡ true → ends_at_end (to s c) ≡ false
end-state st.StartRecord c = end-start_record c
end-state st.StartField c = end-start_field c
end-state st.InField c = end-field c
end-state st.InQuoted c = either (c == 34) (st.AfterQuote, act.Skip) (st.InQuoted, act.Copy) (λ h. cc) (λ h. cc)
end-state st.InEscape c = λ h. cc
end-state st.AfterQuote c = either (c == 34) (st.InQuoted, act.Copy) (in_field default_config c) (λ h. cc) (end-field c)
end-state st.InComment c = either (c == 10) (st.StartRecord, act.Skip) (st.InComment, act.Skip) (λ h. cc) (λ h. cc)
end-state st.AfterCr c = either (c == 10) (st.StartRecord, act.Skip) (start_record default_config c) (λ h. cc) (end-start_record c)

-- what is read behind a byte
abbrev next : State → ℕ → Row → List ℕ → List ℕ → Option Read
next s c fields field rest = next_record default_config (to s c) (fields_after (by s c) fields field) (field_after (by s c) c field) rest

-- what a record leaves: fewer bytes, and such a state
pub record Leaves (p : Read) (n : ℕ) : Type 0 where
  pub fewer : length p.2 ≤ n
  pub rests : ends_at_end p.1 ≡ false

leaves-end : (last p : Read) → last.2 ≡ [] → ends_at_end last.1 ≡ false → (b : Bool) → cond b (Some last) None ≡ Some p → Leaves p 0
leaves-end last p none rests true e =
    let same : last ≡ p = cc in
    let short : length last.2 ≤ 0 = omega (arith, ap length none) in
    subst (λ (q : Read). Leaves q 0) same (record { fewer = short; rests = rests })
leaves-end last p none rests false e = absurd (cc)

same-read : (p q : Read) → Some p ≡ Some q → p ≡ q
same-read p q e = cc

leaves-step : (s : State) (c : ℕ) (fields : Row) (rest : List ℕ) (more : Option Read) (p : Read) (b : Bool) → is_end (by s c) ≡ b
    → (more ≡ Some p → Leaves p (length rest)) → cond b (Some (fields, to s c, rest)) more ≡ Some p → Leaves p (suc (length rest))
leaves-step s c fields rest more p true h ih e =
    subst (λ (q : Read). Leaves q (suc (length rest))) (same-read _ _ e) (record { fewer = omega arith; rests = end-state s c h })
leaves-step s c fields rest more p false h ih e =
    let l = ih e in
    record { fewer = omega (arith, l.fewer); rests = l.rests }

leaves : (s : State) (fields : Row) (field xs : List ℕ) (p : Read) → next_record default_config s fields field xs ≡ Some p → Leaves p (length xs)
unfolding next_record
leaves s fields field [] p = leaves-end (fields ++ (field ∷ []), st.StartRecord, []) p refl refl (ends_at_end s)
leaves s fields field (c ∷ rest) p =
    leaves-step s c (fields_after (by s c) fields field) rest
    (next s c fields field rest)
    p (is_end (by s c)) refl
    (leaves (to s c) (fields_after (by s c) fields field) (field_after (by s c) c field) rest p)

-- from a state at which the text may end, a record takes a byte at least
fewer-step : (s : State) (c : ℕ) (fields : Row) (rest : List ℕ) (more : Option Read) (p : Read) (b : Bool)
    → (more ≡ Some p → Leaves p (length rest)) → cond b (Some (fields, to s c, rest)) more ≡ Some p → length p.2 < suc (length rest)
fewer-step s c fields rest more p true ih e =
    subst (λ (q : Read). length q.2 < suc (length rest)) (same-read _ _ e) (omega arith)
fewer-step s c fields rest more p false ih e = omega (arith, (ih e).fewer)

not-none : (b : Bool) (last p : Read) → b ≡ false → cond b (Some last) None ≡ Some p → ⊥
not-none true last p h e = cc
not-none false last p h e = cc

takes-one : (s : State) (xs : List ℕ) (p : Read) → ends_at_end s ≡ false → next_record default_config s [] [] xs ≡ Some p
    → Leaves p (length xs) × (length p.2 < length xs)
unfolding next_record
takes-one s [] p rests e = absurd (not-none (ends_at_end s) _ p rests e)
takes-one s (c ∷ rest) p rests e = (
  leaves s [] [] (c ∷ rest) p e,
  fewer-step s c (fields_after (by s c) [] []) rest
      (next s c [] [] rest)
      p (is_end (by s c))
      (leaves (to s c) (fields_after (by s c) [] []) (field_after (by s c) c []) rest p) e,
)

-- ---- the records that are left

-- one record more
pub records-more : (n : ℕ) (s : State) (xs : List ℕ) (p : Read) → next_record default_config s [] [] xs ≡ Some p
    → records_from default_config (suc n) s xs ≡ p.0 ∷ records_from default_config n p.1 p.2
unfolding records_from
records-more n s xs p e = rw e refl

pub records-end : (n : ℕ) (s : State) (xs : List ℕ) → next_record default_config s [] [] xs ≡ None → records_from default_config (suc n) s xs ≡ []
unfolding records_from
records-end n s xs e = rw e refl

-- the reader stands before these records
pub record Stands {R : Type 0} (rem : R → Option (List ℕ)) (reader : Reader R) (rows : List Row) : Type 0 where
  pub plain : reader.trim ≡ trim.None
  pub ready : Ready reader
  pub config : reader.config ≡ default_config
  pub rests : ends_at_end reader.state ≡ false
  pub left : List ℕ
  pub source : source_of rem reader ≡ Some left
  pub fuel : ℕ
  pub enough : length left < fuel
  pub is : rows ≡ records_from default_config fuel reader.state left

-- one step of what was reached
reached-one : (s : State) (xs : List ℕ) (f : Row) (s2 : State) (ys : List ℕ) → Reached default_config s xs (f ∷ []) s2 ys
    → (p : Read) × (next_record default_config s [] [] xs ≡ Some p) × (f ≡ p.0) × (p.1 ≡ s2) × (p.2 ≡ ys)
unfolding Reached
reached-one s xs f s2 ys h = (h.0, h.1, h.2, h.3.0, h.3.1)

reached-none : (s : State) (xs : List ℕ) → Reached default_config s xs [] s xs
unfolding Reached
reached-none s xs = (refl, refl)

pub stands-more : {R : Type 0} (rem : R → Option (List ℕ)) (a b : Reader R) (f : Row) (rows : List Row)
    → Stands rem a rows → ReadRecord rem a b true f → b.first ≡ true → (rest : List Row) × (rows ≡ f ∷ rest) × Stands rem b rest
stands-more {R} rem a b f rows h r first = go h.fuel h.enough h.is
  where
    step : (z : List ℕ) × (source_of rem b ≡ Some z) × Reached default_config a.state h.left (f ∷ []) b.state z
    step = rows-more rem a b f default_config a.state h.left h.left [] h.config h.source (reached-none a.state h.left) r

    go : (n : ℕ) → length h.left < n → rows ≡ records_from default_config n a.state h.left
        → (rest : List Row) × (rows ≡ f ∷ rest) × Stands rem b rest
    go zero lt e = absurd (omega arith)
    go (suc n) lt e =
        let one = reached-one a.state h.left f b.state step.0 step.2 in
        let took = takes-one a.state h.left one.0 h.rests one.1 in
        let rest = records_from default_config n b.state step.0 in
        let same : records_from default_config n one.0.1 one.0.2 ≡ rest = λ i. records_from default_config n (one.3 i) (one.4 i) in (
          rest,
          e ∙ records-more n a.state h.left one.0 one.1 ∙ (λ i. sym one.2 i ∷ same i),
          record {
            plain = r.3 ∙ h.plain;
            ready = inl first;
            config = r.2 ∙ h.config;
            rests = sym (ap ends_at_end one.3) ∙ took.0.rests;
            left = step.0;
            source = step.1;
            fuel = n;
            enough = omega (arith, took.1, ap length one.4, lt);
            is = refl;
          },
        )

pub stands-end : {R : Type 0} (rem : R → Option (List ℕ)) (a b : Reader R) (f : Row) (rows : List Row)
    → Stands rem a rows → ReadRecord rem a b false f → rows ≡ []
stands-end rem a b f rows h r = go h.fuel h.enough h.is
  where
    go : (n : ℕ) → length h.left < n → rows ≡ records_from default_config n a.state h.left → rows ≡ []
    go zero lt e = absurd (omega arith)
    go (suc n) lt e = e ∙ records-end n a.state h.left (rows-end rem a b f default_config h.left h.config h.source r)
