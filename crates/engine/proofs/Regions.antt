-- One region changes, and the others keep what they hold.
use Rattle.std.proofs.Common.{◌≡◌, ℕ, zero, suc, ◌-◌, ◌*◌, ◌<◌, ◌≤◌, eqb, ◌⊎◌, List, [], ◌∷◌, length, get_or, take, drop, set, sym, refl, ap, ◌∙◌, subst, inl, inr, arith, length-drop, length-take}
use mathlib.Core.Path.{fun_ext}
use borrow.Rule.Slice.PartMut.{put_mid}
use Rattle.std.proofs.lemmas.Nat.{mul-le}
use Rattle.std.specs.List.{between}
use Rattle.std.proofs.lemmas.Bool.{cases_eq, cond-true, cond-false, eq-eqb, ne_eqb}
use Rattle.std.proofs.lemmas.List.{get_or-set_other}
use Rattle.std.proofs.lemmas.Grind.{get_or-set_at}
use Rattle.std.proofs.lemmas.Slice.{between_is, between-put_mid, take-put_mid_below, drop-put_mid}
use Rattle.terms.specs.declared.cells.WorkCell.{WorkCell}
use Rattle.meaning.specs.Running.{put}
use Rattle.engine.specs.declared.layout.Region.{Region}
use Rattle.engine.specs.Rows.{values}
use Rattle.engine.specs.Regions.{inside, seen, end_of, SameApart, Room, Laid, Within, region}
use Rattle.engine.proofs.Values.{values_part}

earlier : (e f l : ℕ) (g : Region) → e ≤ f → Room f l g → Room e l g
earlier e f l g h r = record { after = omega (arith, r.after); fits = r.fits; few = r.few; narrow = r.narrow }

past_end : (f l : ℕ) (g : Region) → Room f l g → f ≤ end_of g
past_end f l g r = omega (arith, r.after)

pub laid_at : (f l : ℕ) (gs : List Region) (b : ℕ) → Laid f l gs → b < length gs → Room f l (region gs b)
laid_at f l [] b h k = absurd (omega arith)
laid_at f l (g ∷ gs) zero h k = h.0
laid_at f l (g ∷ gs) (suc b) h k = earlier f (end_of g) l (region gs b) (past_end f l g h.0) (laid_at (end_of g) l gs b h.1 (omega arith))

pub within_long : (gs : List Region) (ns : List ℕ) → Within gs ns → length ns ≡ length gs
within_long [] [] h = refl
within_long [] (n ∷ ns) h = absurd h
within_long (g ∷ gs) [] h = absurd h
within_long (g ∷ gs) (n ∷ ns) h = ap suc (within_long gs ns h.1)

pub within_at : (gs : List Region) (ns : List ℕ) (b : ℕ) → Within gs ns → b < length gs → get_or ns b 0 ≤ (region gs b).room
within_at [] ns b h k = absurd (omega arith)
within_at (g ∷ gs) [] b h k = absurd h
within_at (g ∷ gs) (n ∷ ns) zero h k = h.0
within_at (g ∷ gs) (n ∷ ns) (suc b) h k = within_at gs ns b h.1 (omega arith)

pub within-set : (gs : List Region) (ns : List ℕ) (b k : ℕ) → Within gs ns → k ≤ (region gs b).room → Within gs (set ns b k)
within-set [] [] b k h e = tt
within-set [] (n ∷ ns) b k h e = absurd h
within-set (g ∷ gs) [] b k h e = h
within-set (g ∷ gs) (n ∷ ns) zero k h e = (e, h.1)
within-set (g ∷ gs) (n ∷ ns) (suc b) k h e = (h.0, within-set gs ns b k h.1 e)

module _ {A X : Type 0} (F : ℕ → ℕ → List A → List X) where
  pub seen_long : (gs : List Region) (ns : List ℕ) (cs : List A) → Within gs ns → length (seen F gs ns cs) ≡ length gs
  seen_long [] ns cs h = refl
  seen_long (g ∷ gs) [] cs h = absurd h
  seen_long (g ∷ gs) (n ∷ ns) cs h = ap suc (seen_long gs ns cs h.1)

  pub seen_at : (gs : List Region) (ns : List ℕ) (cs : List A) (b : ℕ) → Within gs ns → b < length gs → get_or (seen F gs ns cs) b [] ≡ inside F (region gs b) (get_or ns b 0) cs
  seen_at [] ns cs b h k = absurd (omega arith)
  seen_at (g ∷ gs) [] cs b h k = absurd h
  seen_at (g ∷ gs) (n ∷ ns) cs zero h k = refl
  seen_at (g ∷ gs) (n ∷ ns) cs (suc b) h k = seen_at gs ns cs b h.1 (omega arith)

  -- regions that hold nothing
  pub seen_none : (gs : List Region) (ns : List ℕ) (cs : List A) → ((w : ℕ) (xs : List A) → F 0 w xs ≡ []) → ((i : ℕ) → get_or ns i 0 ≡ 0) → (b : ℕ) → get_or (seen F gs ns cs) b [] ≡ []
  seen_none [] ns cs e z b = refl
  seen_none (g ∷ gs) [] cs e z b = refl
  seen_none (g ∷ gs) (n ∷ ns) cs e z zero = ap (λ k. inside F g k cs) (z 0) ∙ e g.width (between g.start (end_of g) cs)
  seen_none (g ∷ gs) (n ∷ ns) cs e z (suc b) = seen_none gs ns cs e (λ i. z (suc i)) b

  module _ (xs ys : List A) where
    -- regions behind a place from which on nothing changed
    seen_same : (f l : ℕ) (gs : List Region) (ns : List ℕ) → Laid f l gs → ((c d : ℕ) → f ≤ c → between c d ys ≡ between c d xs) → seen F gs ns ys ≡ seen F gs ns xs
    seen_same f l [] ns h s = refl
    seen_same f l (g ∷ gs) [] h s = refl
    seen_same f l (g ∷ gs) (n ∷ ns) h s =
        let first = ap (F n g.width) (s g.start (end_of g) h.0.after) in
        let later = seen_same (end_of g) l gs ns h.1 (λ c d k. s c d (omega (arith, past_end f l g h.0))) in
        ap (λ r. r ∷ seen F gs ns ys) first ∙ ap (λ v. inside F g n xs ∷ v) later

    pub seen_changed : (f l : ℕ) (gs : List Region) (ns : List ℕ) (b k : ℕ) (w : List X) → Laid f l gs → Within gs ns → b < length gs
        → SameApart (region gs b).start (end_of (region gs b)) xs ys → inside F (region gs b) k ys ≡ w → seen F gs (set ns b k) ys ≡ set (seen F gs ns xs) b w
    seen_changed f l [] ns b k w h v i s e = absurd (omega arith)
    seen_changed f l (g ∷ gs) [] b k w h v i s e = absurd v
    seen_changed f l (g ∷ gs) (n ∷ ns) zero k w h v i s e =
        ap (λ r. r ∷ seen F gs ns ys) e ∙ ap (λ v. w ∷ v) (seen_same (end_of g) l gs ns h.1 (λ c j m. s c j (inr m)))
    seen_changed f l (g ∷ gs) (n ∷ ns) (suc b) k w h v i s e =
        let m : b < length gs = omega arith in
        let first = ap (F n g.width) (s g.start (end_of g) (inl (laid_at (end_of g) l gs b h.1 m).after)) in
        ap (λ r. r ∷ seen F gs (set ns b k) ys) first ∙ ap (λ v. inside F g n xs ∷ v) (seen_changed (end_of g) l gs ns b k w h.1 v.1 m s e)

get_or_set_put : {X : Type 0} (xs : List (List X)) (b : ℕ) (v : List X) → b < length xs → (n : ℕ) → get_or (set xs b v) n [] ≡ put (λ k. get_or xs k []) b v n
get_or_set_put xs b v h n = elim (cases_eq n b) [
  | inl e ↦ get_or-set_at xs b n v [] e h ∙ sym (cond-true (eqb n b) v (get_or xs n []) (eq-eqb n b e))
  | inr ne ↦ get_or-set_other xs b n v [] ne ∙ sym (cond-false (eqb n b) v (get_or xs n []) (ne_eqb n b ne))
]

-- the list's change, as the state has it
pub put-seen : {X : Type 0} (xs : List (List X)) (b : ℕ) (v : List X) → b < length xs → (λ n. get_or (set xs b v) n []) ≡ put (λ k. get_or xs k []) b v
put-seen xs b v h = fun_ext (get_or_set_put xs b v h)

-- a part that was lent and changed
pub record Lent (a e : ℕ) (old new part : List WorkCell) : Type 0 where
  pub apart : SameApart a e (values old) (values new)
  pub here : between a e (values new) ≡ values part

values_between : (a e : ℕ) (xs : List WorkCell) → between a e (values xs) ≡ values (between a e xs)
values_between a e xs = sym (values_part a (e - a) xs)

pub lent : (a e : ℕ) (old part : List WorkCell) → a ≤ e → e ≤ length old → length part ≡ e - a → Lent a e old (put_mid a (e - a) old part) part
lent a e old part h l n =
    let new = put_mid a (e - a) old part in
    let same : (c d : ℕ) → (d ≤ a) ⊎ (e ≤ c) → between c d new ≡ between c d old = λ c d o. elim o [
      | inl b ↦ between_is new c d ∙ (ap (drop c) (take-put_mid_below a (e - a) old part d b (omega arith)) ∙ sym (between_is old c d))
      | inr b ↦ ap (take (d - c)) (drop-put_mid a (e - a) old part c (omega arith) (omega arith) n)
    ] in
    record {
      apart = λ c d o. values_between c d new ∙ ap values (same c d o) ∙ sym (values_between c d old);
      here = values_between a e new ∙ ap values (between-put_mid a (e - a) old part e (omega arith) n);
    }

-- a whole region that was lent, its end as the code has it
pub lent_region : (g : Region) (e : ℕ) (old part : List WorkCell) → e ≡ end_of g → Room 0 (length old) g → length part ≡ length (take (e - g.start) (drop g.start old))
    → Lent g.start (end_of g) old (put_mid g.start (e - g.start) old part) part
lent_region g e old part is room n =
    let long : length part ≡ e - g.start = n ∙ simp (length-take, length-drop) (omega (arith, room.fits)) in
    let P : ℕ → Type 0 = λ k. Lent g.start k old (put_mid g.start (e - g.start) old part) part in
    subst P is (lent g.start e old part (omega (arith, is)) (omega (arith, is, room.fits)) long)

-- the values of a region's cells, its end as the code has it
pub region-values : (g : Region) (e : ℕ) (xs : List WorkCell) → e ≡ end_of g → values (take (e - g.start) (drop g.start xs)) ≡ between g.start (end_of g) (values xs)
region-values g e xs is = ap (λ (k : ℕ). values (take (k - g.start) (drop g.start xs))) is ∙ values_part g.start (end_of g - g.start) xs

pub region_long : (g : Region) (e : ℕ) (xs : List WorkCell) → e ≡ end_of g → Room 0 (length xs) g → length (take (e - g.start) (drop g.start xs)) ≡ g.room * g.width
region_long g e xs is room = simp (length-take, length-drop) (omega (arith, room.fits, is))

-- so many rows fit
pub rows_fit : (g : Region) (n l : ℕ) → n ≤ g.room → l ≡ g.room * g.width → n * g.width ≤ l
rows_fit g n l h e = omega (arith, mul-le n g.width g.room g.width h (omega arith))
