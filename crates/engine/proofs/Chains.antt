-- What chains of iterators over lists come to, in the words of the specs.
use Rattle.std.proofs.Common.{◌≡◌, ℤ, int_eq, pos, negsuc, true, ◌∙◌, sym, subst, ap₂, Some, None, Option, IfSome, MatchOption, false, Bool, ◌&&◌, List, [], ◌∷◌, length, refl, ap, arith}
use Rattle.std.specs.List.{list_all, zip, AllZip}
use Rattle.std.specs.Option.{option_eq}
use Rattle.std.proofs.lemmas.Bool.{eqb-true, eq-eqb}
use Rattle.std.proofs.lemmas.Bool.Decides.{same_from_decides, Decides-int_eq}
use Rattle.std.specs.Iterator.{AlwaysYields, YieldsThen, ComparesItemsByEq}
use Rattle.std.proofs.lemmas.Iterator.{YieldsList}
use Rattle.std.proofs.lemmas.List.Recursion.{same_from_clauses}
use Rattle.terms.specs.declared.cells.WorkCell.{WorkCell}
use Rattle.terms.specs.Cells.{Cell, Row, every, same, same_number}
use Rattle.queries.specs.declared.parts.Link.{Link}
use Rattle.meaning.specs.Rows.{alike}
use Rattle.meaning.specs.Running.{join_true, joins_true}
use Rattle.engine.specs.Rows.{values}

pub every_is : {X : Type 0} (p : X → Bool) (xs : List X) → list_all p xs ≡ every p xs
every_is p xs = same_from_clauses (list_all p) (every p) (λ x b. p x && b) refl (λ x xs. refl) (λ x xs. refl) xs

-- join conditions and the cells of a tuple
pub joins_true_is : (joins : List Link) (tuple : List WorkCell) (row : Row) → length tuple ≡ length joins
    → list_all (λ (p : Link × WorkCell). join_true row p.0 p.1.value) (zip joins tuple) ≡ joins_true joins (values tuple) row
joins_true_is [] tuple row long = refl
joins_true_is (j ∷ js) [] row long = absurd (omega arith)
joins_true_is (j ∷ js) (c ∷ cs) row long = ap (λ b. join_true row j c.value && b) (joins_true_is js cs row (omega arith))

-- std's equality of numbers, and of cells
same_number_is : (x y : ℤ) → int_eq x y ≡ same_number x y
same_number_is (pos a) (pos b) = same_from_decides _ _ (Decides-int_eq (pos a) (pos b)) (λ h. ap pos (eqb-true a b h), λ e. eq-eqb a b (cc))
same_number_is (pos a) (negsuc b) = refl
same_number_is (negsuc a) (pos b) = refl
same_number_is (negsuc a) (negsuc b) = same_from_decides _ _ (Decides-int_eq (negsuc a) (negsuc b)) (λ h. ap negsuc (eqb-true a b h), λ e. eq-eqb a b (cc))

pub same_is : (x y : Cell) → option_eq int_eq x y ≡ same x y
same_is None None = refl
same_is None (Some y) = refl
same_is (Some x) None = refl
same_is (Some x) (Some y) = same_number_is x y

-- `eq` of two iterators: whether their lists are alike
module _ {S T : Type 0} (steps : S → Option Cell → S → Type 0) (others : T → Option Cell → T → Type 0) (eq : Cell → Cell → Bool) (agree : (x y : Cell) → eq x y ≡ same x y) (r : Bool) where
  abbrev Last : Option Cell → Option Cell → Type 0
  Last o p = MatchOption o (MatchOption p (r ≡ true) (λ y. r ≡ false)) (λ x. (r ≡ false) × IfSome p (λ y. eq x y ≡ false))

  at_last : (o p : Option Cell) (xs ys : List Cell) (s u : S) (t w : T) → AlwaysYields steps (λ x. x) s xs → AlwaysYields others (λ y. y) t ys → steps s o u → others t p w → Last o p → r ≡ alike xs ys
  at_last None None (x ∷ xs) ys s u t w e f a b h = absurd (e.0 u a)
  at_last None (Some y) (x ∷ xs) ys s u t w e f a b h = absurd (e.0 u a)
  at_last (Some x) None [] ys s u t w e f a b h = absurd (e x u a)
  at_last (Some x) (Some y) [] ys s u t w e f a b h = absurd (e x u a)
  at_last None None [] (y ∷ ys) s u t w e f a b h = absurd (f.0 w b)
  at_last None (Some y) [] [] s u t w e f a b h = absurd (f y w b)
  at_last (Some x) None (z ∷ xs) (y ∷ ys) s u t w e f a b h = absurd (f.0 w b)
  at_last (Some x) (Some y) (z ∷ xs) [] s u t w e f a b h = absurd (f y w b)
  at_last None None [] [] s u t w e f a b h = h
  at_last None (Some y) [] (z ∷ ys) s u t w e f a b h = h
  at_last (Some x) None (z ∷ xs) [] s u t w e f a b h = h.0
  at_last (Some x) (Some y) (x' ∷ xs) (y' ∷ ys) s u t w e f a b h =
      let other : same x' y' ≡ false = sym (ap₂ same (e.1 x u a).0 (f.1 y w b).0) ∙ sym (agree x y) ∙ h.1 in
      h.0 ∙ sym (ap (λ c. c && alike xs ys) other)

  along : (cs bs : List Cell) (o p : Option Cell) (xs ys : List Cell) (s u : S) (t w : T) → AlwaysYields steps (λ x. x) s xs → AlwaysYields others (λ y. y) t ys
      → YieldsThen steps s cs o u → YieldsThen others t bs p w → AllZip (λ x y. eq x y ≡ true) cs bs → Last o p → r ≡ alike xs ys
  along [] [] o p xs ys s u t w e f a b z h = at_last o p xs ys s u t w e f (subst (λ j. steps j o u) (sym a.1) a.2) (subst (λ j. others j p w) (sym b.1) b.2) h
  along [] (y ∷ bs) o p xs ys s u t w e f a b z h = absurd z
  along (x ∷ cs) [] o p xs ys s u t w e f a b z h = absurd z
  along (x ∷ cs) (y ∷ bs) o p [] ys s u t w e f a b z h = absurd (e x a.1.0 a.1.1)
  along (x ∷ cs) (y ∷ bs) o p (x' ∷ xs) [] s u t w e f a b z h = absurd (f y b.1.0 b.1.1)
  along (x ∷ cs) (y ∷ bs) o p (x' ∷ xs) (y' ∷ ys) s u t w e f a b z h =
      let m = e.1 x a.1.0 a.1.1 in
      let n = f.1 y b.1.0 b.1.1 in
      let tie : same x' y' ≡ true = sym (ap₂ same m.0 n.0) ∙ sym (agree x y) ∙ z.0 in
      along cs bs o p xs ys a.1.0 u b.1.0 w m.1 n.1 (a.0, a.1.2, a.2) (b.0, b.1.2, b.2) z.1 h ∙ sym (ap (λ c. c && alike xs ys) tie)

pub alike_from_yields : {S U T : Type 0} {steps : S → Option Cell → S → Type 0} {others : T → Option Cell → T → Type 0} {s : S} {eq : Cell → Cell → Bool} {xs ys : List Cell} (becomes : U → T → Type 0) (other : U) (r : Bool)
    → ComparesItemsByEq steps becomes others s other eq r → YieldsList steps (λ x. x) s xs → ((it : T) → becomes other it → YieldsList others (λ y. y) it ys) → ((x y : Cell) → eq x y ≡ same x y) → r ≡ alike xs ys
alike_from_yields {steps = steps} {others = others} {s = s} {eq = eq} {xs = xs} {ys = ys} becomes other r d e f agree =
    along steps others eq agree r d.1 d.2 d.3 d.4 xs ys s d.5 d.0 d.6 e.runs (f d.0 d.7).runs d.8 d.9 d.10 d.11
