-- Running over stored tables: what is read, where it stops, and the theorem.
use Rattle.std.proofs.Common.{◌≡◌, ℕ, suc, ◌+◌, List, [], ◌∷◌, ◌++◌, map, length, Some, None, fold, sum_by, Option, sym, refl, ap, ◌∙◌, append_assoc, arith}
use Rattle.std.specs.Option.{option_map}
use Rattle.std.proofs.lemmas.List.Sums.{fold-append, sum_by-cons, sum_by-append}
use Rattle.terms.specs.declared.comparisons.Comparison.TheVariants.{Equal}
use Rattle.terms.specs.Tables.{Stored, Tables}
use Rattle.queries.specs.declared.aggregates.Aggregate.TheVariants.{CountRows}
use Rattle.queries.specs.declared.nests.Nest.{Nest}
use Rattle.queries.specs.declared.nests.Nest.TheVariants.{Exists}
use Rattle.queries.specs.declared.steps.Operand.TheVariants.{Zero}
use Rattle.queries.specs.declared.steps.Step.{Step}
use Rattle.queries.specs.declared.steps.Step.TheVariants.{Restrict, Output}
use Rattle.meaning.specs.Rows.{Contents}
use Rattle.meaning.specs.Aggregates.{Meaning}
use Rattle.meaning.specs.Queries.{Inner, Query, nested}
use Rattle.meaning.specs.Plans.{Flat, Plan, translated, translated_as, restricts, unnests, plan, table_of}
use Rattle.meaning.specs.Running.{State, nothing, restrict, output, take_step, take_steps}
use Rattle.meaning.specs.Reading.{stored, readable, contents, first_unreadable, Stop, Visit, inner_visits, visits, met, first_met, row_counts, unless, answers, Going, on, stopped, unless_met, go, outcome, ran}
use Rattle.meaning.proofs.Unnesting.{restricted, unnested, all_restricted, all_unnested, writes_nested, unnested_reads}
use Rattle.meaning.proofs.Resolving.{Placed, plan_placed, restrict_is, unnests_are}

none_before : (o : Option ℕ) → option_map suc o ≡ None → o ≡ None
none_before None h = refl
none_before (Some i) h = cc

-- where every row is readable none is left out
pub all_there : (rs : List Stored) → first_unreadable rs ≡ None → length (readable rs) ≡ length rs
all_there [] h = refl
all_there (None ∷ rs) h = cc
all_there (Some r ∷ rs) h = ap suc (all_there rs (none_before (first_unreadable rs) h))

-- the first of two
abbrev or_later : Option Stop → Option Stop → Option Stop
or_later None later = later
or_later (Some x) later = Some x

-- the blocks as the plan reads them
abbrev flat_visits : ℕ → List Flat → List Visit
flat_visits b [] = []
flat_visits b (f ∷ fs) = flat_visits (suc b) fs ++ (record { block = b; table = f.table } ∷ [])

pub same_table : (b : Inner) (n : Nest) → (translated_as b n).table ≡ b.table
same_table b Exists = refl
same_table b other = refl

same-visits : (is : List Inner) (b : ℕ) → flat_visits b (map translated is) ≡ inner_visits b is
same-visits [] b = refl
same-visits (i ∷ is) b =
    simp (same-visits is (suc b), same_table i i.nest)

module _ (tables : Tables) where
  abbrev rows_at : Visit → ℕ
  rows_at v = length (stored tables v.table)

  abbrev last-met : Visit → ℕ → Option Stop
  last-met v n = met v n (first_unreadable (stored tables v.table)) None

  -- one visit more
  met-push : (vs : List Visit) (v : Visit) (n : ℕ) → first_met tables (vs ++ (v ∷ [])) n ≡ or_later (first_met tables vs n) (last-met v (n + sum_by rows_at vs))
  met-push [] v n = ap (last-met v) (omega arith)
  met-push (w ∷ ws) v n =
      let m : ℕ = n + rows_at w in
      first w (first_unreadable (stored tables w.table)) n (first_met tables (ws ++ (v ∷ [])) m) (first_met tables ws m) (last-met v (m + sum_by rows_at ws)) (met-push ws v m)
      ∙ ap (λ k. or_later (first_met tables (w ∷ ws) n) (last-met v k)) (omega (arith, sum_by-cons rows_at w ws))
    where
      first : (w : Visit) (o : Option ℕ) (n : ℕ) (a b c : Option Stop) → a ≡ or_later b c → met w n o a ≡ or_later (met w n o b) c
      first w None n a b c e = e
      first w (Some i) n a b c e = refl

  unmet : (o later : Option Stop) → or_later o later ≡ None → (o ≡ None) × (later ≡ None)
  unmet None later h = (refl, h)
  unmet (Some x) later h = (cc, cc)

  all_readable : (v : Visit) (n : ℕ) → last-met v n ≡ None → first_unreadable (stored tables v.table) ≡ None
  all_readable v n h = grind arith

  -- where no unreadable row is met every stored row is read
  restricted_reads : {Total : Type 0} (house : Meaning Total) (fs : List Flat) (b : ℕ) (s : State) → first_met tables (flat_visits b fs) s.reads ≡ None → (restricted (contents tables) house b fs s).reads ≡ s.reads + sum_by rows_at (flat_visits b fs)
  restricted_reads house [] b s h = omega arith
  restricted_reads house (f ∷ fs) b s h =
      let v : Visit = record { block = b; table = f.table } in
      let vs : List Visit = flat_visits (suc b) fs in
      let none = unmet _ _ (sym (met-push vs v s.reads) ∙ h) in
      let there : length (readable (stored tables f.table)) ≡ length (stored tables f.table) = all_there _ (all_readable v _ none.1) in
      let before = restricted_reads house fs (suc b) s none.0 in
      omega (arith, before, there, sum_by-append rows_at vs (v ∷ []), sum_by-cons rows_at v [])

  module _ {Total : Type 0} (house : Meaning Total) (p : Plan) where
    abbrev db : Contents
    db = contents tables

    -- a run goes on unless an unreadable row was met
    abbrev carried : Option Stop → State → Going
    carried None s = on s
    carried (Some x) s = stopped x

    pub stays : (steps : List Step) (x : Stop) → fold (go p tables house) (stopped x) steps ≡ stopped x
    stays [] x = refl
    stays (st ∷ sts) x = stays sts x

    unless_met_is : (v : Visit) (o : Option ℕ) (n : ℕ) (s : State) → unless_met o v.block v.table n s ≡ carried (met v n o None) s
    unless_met_is v None n s = refl
    unless_met_is v (Some i) n s = refl

    -- RESTRICT for one block
    one_restrict : (b : ℕ) (f : Flat) (before : State) (n : ℕ) → before.reads ≡ n → table_of p b ≡ f.table → take_step p db house before (Restrict b b) ≡ restrict before b f.tests (db f.table) → go p tables house (on before) (Restrict b b) ≡ carried (last-met (record { block = b; table = f.table }) n) (restrict before b f.tests (db f.table))
    one_restrict b f before n e t steps =
        ap (λ k. unless_met (first_unreadable (stored tables (table_of p b))) b (table_of p b) k (take_step p db house before (Restrict b b))) e
        ∙ ap (λ k. unless_met (first_unreadable (stored tables k)) b k n (take_step p db house before (Restrict b b))) t
        ∙ ap (unless_met (first_unreadable (stored tables f.table)) b f.table n) steps
        ∙ unless_met_is (record { block = b; table = f.table }) (first_unreadable (stored tables f.table)) n (restrict before b f.tests (db f.table))

    restricts-go : (fs : List Flat) (b : ℕ) (s : State) → Placed p b fs → fold (go p tables house) (on s) (restricts b fs) ≡ carried (first_met tables (flat_visits b fs) s.reads) (restricted db house b fs s)
    restricts-go [] b s places = refl
    restricts-go (f ∷ fs) b s places =
        let v : Visit = record { block = b; table = f.table } in
        let vs : List Visit = flat_visits (suc b) fs in
        let before : State = restricted db house (suc b) fs s in
        rw (fold-append (go p tables house) (on s) (restricts (suc b) fs) (Restrict b b ∷ []), restricts-go fs (suc b) s places.4, met-push vs v s.reads)
        (next (first_met tables vs s.reads) before (restrict before b f.tests (db f.table)) (last-met v (s.reads + sum_by rows_at vs))
        (λ none. one_restrict b f before _ (restricted_reads house fs (suc b) s none) places.0 (restrict_is p db house b f before places.0 places.1)))
      where
        next : (m : Option Stop) (before after : State) (last : Option Stop) → (m ≡ None → go p tables house (on before) (Restrict b b) ≡ carried last after) → go p tables house (carried m before) (Restrict b b) ≡ carried (or_later m last) after
        next None before after last h = h refl
        next (Some x) before after last h = refl

    unnests-go : (fs : List Flat) (c : ℕ) (s : State) → fold (go p tables house) (on s) (unnests c fs) ≡ on (take_steps p db house s (unnests c fs))
    unnests-go [] c s = refl
    unnests-go (f ∷ fs) c s =
        simp (fold-append, unnests-go fs (suc c) s)

module _ {Total : Type 0} (tables : Tables) (house : Meaning Total) (q : Query) where
  abbrev flats : List Flat
  flats = map translated q.inner

  -- block 0 beside the others: only its table and its tests are looked at
  abbrev outer : Flat
  outer = record { table = q.table; tests = q.tests; joins = []; operand = Zero; comparison = Equal; aggregate = CountRows }

  abbrev last : List Step
  last = unnests 0 flats ++ (Output 0 ∷ [])

  steps_split : (plan q).steps ≡ restricts 0 (outer ∷ flats) ++ last
  steps_split = sym (append_assoc (restricts 1 flats) (Restrict 0 0 ∷ []) last)

  visits_are : flat_visits 0 (outer ∷ flats) ≡ visits q
  visits_are = ap (λ vs. vs ++ (record { block = 0; table = q.table } ∷ [])) (same-visits q.inner 1)

  -- the steps after RESTRICT
  rest : (s : State) → fold (go (plan q) tables house) (on s) last ≡ on (output (unnested (contents tables) house 0 flats s) 0 q.outputs)
  rest s =
      simp (fold-append, unnests-go tables house (plan q) flats 0 s, unnests_are (plan q) (contents tables) house flats 0 s (plan_placed q))

  reads_all : first_met tables (visits q) 0 ≡ None → (all_unnested (contents tables) house q).reads ≡ row_counts tables q
  reads_all none =
      unnested_reads (contents tables) house flats 0 (all_restricted (contents tables) house q)
      ∙ restricted_reads tables house (outer ∷ flats) 0 nothing (ap (λ vs. first_met tables vs 0) visits_are ∙ none)
      ∙ ap (λ vs. 0 + sum_by (λ v. length (stored tables v.table)) vs) visits_are
      ∙ omega arith

  ends : (m : Option Stop) → first_met tables (visits q) 0 ≡ m → outcome (fold (go (plan q) tables house) (carried tables house (plan q) m (all_restricted (contents tables) house q)) last) ≡ unless m (nested (contents tables) house q, row_counts tables q)
  ends None e =
      rw (rest (all_restricted (contents tables) house q), writes_nested (contents tables) house q, reads_all e)
  ends (Some x) e = ap outcome (stays tables house (plan q) last x)

  -- running the plan of a query answers what nested iteration gives
  pub flat_is_nested : ran (plan q) tables house ≡ answers tables house q
  flat_is_nested =
      rw (
        steps_split,
        fold-append (go (plan q) tables house) (on nothing) (restricts 0 (outer ∷ flats)) last,
        restricts-go tables house (plan q) (outer ∷ flats) 0 nothing (refl, refl, refl, refl, plan_placed q),
        visits_are,
      )
      (ends (first_met tables (visits q) 0) refl)
