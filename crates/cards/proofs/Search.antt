-- What `find_map` answers over an iterator that shows the list of what is left.
use Rattle.std.proofs.Common.{◌≡◌, ℕ, suc, ◌+◌, ◌<◌, List, [], ◌∷◌, Some, None, Option, IsTrue, IfSome, MatchOption, sym, refl, ap, ◌∙◌, subst}
use Rattle.std.specs.List.{FoldsTo, slice_get}
use Rattle.std.specs.Option.{option_map, option_or}
use Rattle.std.specs.Fn.{Called}
use Rattle.std.specs.Iterator.{Yields, YieldsThen, YieldsFirstBy, FindsMapped}
use Rattle.std.specs.Iterator.Runs.{SomeRun, AllItemsGive, IsFirstToGive, YieldsRun}
use denote.Param.Members.{Mut}
use Rattle.terms.proofs.Loops.{numbered_in_front, numbered_behind}
use Rattle.cards.specs.Format.{CardRecord}
use Rattle.cards.specs.CardTables.{RawTable, table_in, tables_in, table_for}

-- the first answer that a function has for an item
abbrev pub first_some : {C Z : Type 0} → (C → Option Z) → List C → Option Z
first_some h [] = None
first_some h (c ∷ cs) = option_or (h c) (first_some h cs)

module _ {S A C F Y Z : Type 0} (view : A → C) (rest : S → List C) (g : Mut F (A × Unit {0}) (Option Y)) (f : F) (w : Y → Z) (h : C → Option Z) (gives : (x : A) (r : Option Y) (q : F) → Called g f (x, tt) r q → (q ≡ f) × (option_map w r ≡ h (view x))) where
  -- items without an answer
  passed : (xs : List A) (s t : S) (p q : F) → p ≡ f → Yields (YieldsFirstBy view rest) s xs t → FoldsTo (λ p x q. Called g p (x, tt) None q) p xs q → (first_some h (rest s) ≡ first_some h (rest t)) × (q ≡ f)
  passed [] s t p q e y c = (ap (λ u. first_some h (rest u)) y, sym c ∙ e)
  passed (x ∷ xs) s t p q e y c =
      let k = gives x None c.0 (subst (λ v. Called g v (x, tt) None c.0) e c.1) in
      let later = passed xs y.0 t c.0 q k.0 y.2 c.2 in
      (ap (first_some h) y.1 ∙ ap (λ o. option_or o (first_some h (rest y.0))) (sym k.1) ∙ later.0, later.1)

  -- an item with one
  answered : (y : Y) (x : A) (t u : S) (q j : F) → q ≡ f → YieldsFirstBy view rest t (Some x) u → Called g q (x, tt) (Some y) j → Some (w y) ≡ first_some h (rest t)
  answered y x t u q j e p c =
      let k = gives x (Some y) j (subst (λ v. Called g v (x, tt) (Some y) j) e c) in
      sym (ap (first_some h) p ∙ ap (λ o. option_or o (first_some h (rest u))) (sym k.1))

  calls : (xs : List A) → ((k : ℕ) → IfSome (slice_get xs k) (λ x. Called g f (x, tt) None f)) → FoldsTo (λ p x q. Called g p (x, tt) None q) f xs f
  calls [] a = refl
  calls (x ∷ xs) a = (f, a 0, calls xs (λ k. a (suc k)))

  pub found_by : (s u : S) (r : Option Y) → FindsMapped (YieldsFirstBy view rest) g s f r u → SomeRun (YieldsFirstBy view rest) s (λ p. MatchOption r (IsTrue p.whole × AllItemsGive p g f None) (λ y. (i : ℕ) × (i < p.len) × (p.len ≡ i + 1) × IsFirstToGive p g f (Some y) None i)) → option_map w r ≡ first_some h (rest s)
  unfolding YieldsRun
  found_by s u None d run =
      let p = run.0 in
      let each = run.2.1 (λ a r q k. (gives a.0 r q k).0) in
      let asked = calls p.items (λ k. subst (λ o. IfSome o (λ x. Called g f (x, tt) None f)) (p.gave.1 k) (each k)) in
      let end = p.gave.0.2 run.2.0 in
      sym (ap (λ z. first_some h (rest z)) (sym run.1) ∙ (passed p.items p.from p.gave.0.0 f f refl p.gave.0.1 asked).0 ∙ ap (first_some h) end.1.0)
  found_by s u (Some y) d run = by d.1 d.3 d.5
    where
      by : (o : Option A) → YieldsThen (YieldsFirstBy view rest) s d.0 o u → MatchOption o (Some y ≡ None) (λ x. (j : F) × Called g d.2 (x, tt) (Some y) j) → Some (w y) ≡ first_some h (rest s)
      by None a b = cc
      by (Some x) a b =
          let front = passed d.0 s a.0 f d.2 refl a.1 d.4 in
          answered y x a.0 u d.2 b.0 front.1 a.2 b.1 ∙ sym front.0

-- the first table with a number, record by record
pub first_table : (n : ℕ) (rs : List CardRecord) → first_some (λ r. table_for (table_in r.bytes r.kind r.payload) n) rs ≡ table_for (tables_in rs) n
first_table n [] = refl
first_table n (r ∷ rs) = go (table_for (table_in r.bytes r.kind r.payload) n) refl (first_table n rs)
  where
    go : (o : Option RawTable) → table_for (table_in r.bytes r.kind r.payload) n ≡ o → first_some (λ x. table_for (table_in x.bytes x.kind x.payload) n) rs ≡ table_for (tables_in rs) n → option_or o (first_some (λ x. table_for (table_in x.bytes x.kind x.payload) n) rs) ≡ table_for (tables_in (r ∷ rs)) n
    go None q later = later ∙ sym (numbered_behind (λ t. t.number) n (table_in r.bytes r.kind r.payload) (tables_in rs) q)
    go (Some t) q later = sym (numbered_in_front (λ t. t.number) n (table_in r.bytes r.kind r.payload) (tables_in rs) t q)
