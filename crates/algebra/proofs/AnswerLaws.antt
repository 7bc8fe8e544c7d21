-- Laws of answers and of chains of refusals.
--
--   chain_refuses   a chain answers the number n exactly when n's line holds and no earlier one does
--   chain_gives     it gives its value exactly when no line holds
--   chain_refuses_upon, chain_gives_upon    the same where its second part is decided only if no line of the first part holds
--   given-refused   a value is no refusal
--   in_case         where an answer is known to be a case, the case reads as the answer does
--   on_value_refuses, on_value_gives    a function of an answer's value is refused where the answer is, and gives that function of what the answer gives
--   on_value_chain  a function of what a chain gives is the same chain with that function of its value
--   one_answer      two answers with one reading are one answer
--   chain_broken, chain_kept, chain_stop, chain_after    what a sequence of tests in the code says of its chain
--   chain_stops, chain_goes                 what a first part, known by its answer, says of a longer chain
--   chain_ends      a chain ends in its value, or in a number that is not 0
--   refusal_keeps   where the number of the first broken rule is 0, the rules are kept
--   refusal_stops, refusal_goes             that number of rules joined: of the first part where it is not 0, else of the second
--   numbered-append rules joined have numbers that are not 0
--   Unbroken rs     no rule of rs is broken
--   unbroken_gives, gives_unbroken          so it is exactly where a chain gives its value
--   unbroken-refusal, refusal_unbroken      and where that number is 0
--   unbroken-append, append_unbroken        rules joined
--   unbroken_after                          behind them a chain goes on
--   clear-refusal   the number of the first broken rule is 0 exactly when no line holds
--   first_clear, first_one    a table with a first line that holds is not clear, and its number is one
--   decides-append, first-append, clear-append    tables joined
--   reflects_yes, reflects_no, reflects_true, reflects_false    what a test that decides a statement says of it, and it of the test
--   reflects_by, reflects_stable, reflects_dec      a test by its two cases; a decided statement that is not false holds; it holds or not
--   reflects_agree  two tests of one statement agree
--   reflects_iff, reflects-not, reflects-or, reflects-and       tests that decide what is made of statements
--   reflects_both   of two tests, the second decides its statement where the first statement holds
--   reflects_ltb, reflects_leb, reflects_eqb, reflects-eq_z, reflects_lt_z      the tests of numbers
--   reflects_minus, reflects-nought                 the tests of the sign of a number
--   is-minus, is-nought, is-plus    the tests of a sign
use mathlib.Core.Path.{◌≡◌, refl, sym, ◌∙◌, ap}
use mathlib.Core.Logic.{◌⊎◌, inl, inr, ◌↔◌}
use mathlib.Core.Bool.{Bool, true, false, cond, not, ◌||◌, ◌&&◌, true≢false, false≢true}
use mathlib.Core.List.{List, [], ◌∷◌, ◌++◌}
use Prim.Native.Nat.{ℕ, zero, suc, ◌+◌, ◌-◌, ◌≤◌, ◌<◌}
use native.Mathlib.Omega.{arith}
use lib.Dec.{ltb, leb, eqb}
use lib.IntN.{ℤ, pos, negsuc, sub_ℕ, ◌-ℤ◌, -ℤ-+ℤ_cancel, pos-ne-negsuc}
use lib.Signed.{lt_z}
use borrow.Author.Tests.{le-ltb, ltb-true, ltb-false, leb-true, leb-false, eqb-true, eqb-false}
use Rattle.algebra.specs.Answer.{Answer, gives, refuses, on_value, Rule, chain, refusal, Numbered, Line, First, Clear, Reflects, holds, fails, Decides}
use Rattle.algebra.specs.Sign.{Sign, minus, nought, plus, sign_of, Pos, Neg, is_minus, is_nought, is_plus, eq_z}
use Rattle.algebra.proofs.SignLaws.{pos_cast, pos_nn_add, pos-zero, neg-sign_of, zero-sign_of, sign_of-neg, sign_of-zero, plus_minus, plus-nought, minus-nought}

-- ---- the two kinds of answer

pub given-refused : {A : Type 0} {X : Type 0} {v : A} {n : ℕ} → gives v ≡ refuses n → X
given-refused {A} {X} {v} {n} e = let z : ◌≡◌ {A = ℕ} 0 1 = cc in absurd (clash z)
  where
    clash : ◌≡◌ {A = ℕ} 0 1 → ⊥
    clash z = omega arith

refuses_one : {A : Type 0} {m n : ℕ} → ◌≡◌ {A = Answer A} (refuses m) (refuses n) → m ≡ n
refuses_one e = cc

gives_one : {A : Type 0} {v w : A} → gives v ≡ gives w → v ≡ w
gives_one e = cc

pub on_value_refuses : {A B : Type 0} (f : A → B) (a : Answer A) (n : ℕ) → (on_value f a ≡ refuses n) ↔ (a ≡ refuses n)
on_value_refuses f (gives v) n = (λ e. given-refused e, λ e. given-refused e)
on_value_refuses f (refuses m) n = (λ e. ap refuses (refuses_one e), λ e. ap refuses (refuses_one e))

pub on_value_gives : {A B : Type 0} (f : A → B) (a : Answer A) (w : B) → (on_value f a ≡ gives w) ↔ ((v : A) × (a ≡ gives v) × (f v ≡ w))
on_value_gives f (gives v) w = (λ e. (v, refl, gives_one e), λ (u, e, q). ap gives (ap f (gives_one e) ∙ q))
on_value_gives f (refuses n) w = (λ e. given-refused (sym e), λ (u, e, q). given-refused (sym e))

-- the code has matched the answer r, and found the case s
pub in_case : {E A : Type 0} (read : E → A) {r s : E} {a : A} → r ≡ s → read r ≡ a → read s ≡ a
in_case read e p = sym (ap read e) ∙ p

-- an answer is known by its reading, where the reading can be undone
pub one_answer : {E A : Type 0} (read : E → A) (back : A → E) → ((r : E) → back (read r) ≡ r) → {x : A} {r r' : E} → read r ≡ x → read r' ≡ x → r ≡ r'
one_answer read back undone {x} {r} {r'} p q = sym (undone r) ∙ ap back (p ∙ sym q) ∙ undone r'

-- ---- chains

pub on_value_chain : {A B : Type 0} (f : A → B) (rs : List Rule) (v : A) → on_value f (chain rs v) ≡ chain rs (f v)
unfolding chain
on_value_chain f [] v = refl
on_value_chain f (r ∷ rs) v = go r.broken (on_value_chain f rs v)
  where
    go : (b : Bool) → on_value f (chain rs v) ≡ chain rs (f v) → on_value f (cond b (refuses r.number) (chain rs v)) ≡ cond b (refuses r.number) (chain rs (f v))
    go true ih = refl
    go false ih = ih

module _ {A : Type 0} where
  -- one rule more, decided; what follows it matters only where it is kept
  refuses_step : (r : Rule) (rs : List Rule) (l : Line) (ls : List Line) (v : A) (n : ℕ) → r.number ≡ l.number → Reflects l.when r.broken
      → ((l.when → ⊥) → (chain rs v ≡ refuses n) ↔ First n ls) → (chain (r ∷ rs) v ≡ refuses n) ↔ First n (l ∷ ls)
  unfolding chain
  refuses_step r rs l ls v n q d ih = go r.broken d
    where
      go : (b : Bool) → Reflects l.when b → (cond b (refuses r.number) (chain rs v) ≡ refuses n) ↔ First n (l ∷ ls)
      go true (holds h) = (λ e. inl (h, sym (refuses_one e) ∙ q), out)
        where
          out : First n (l ∷ ls) → ◌≡◌ {A = Answer A} (refuses r.number) (refuses n)
          out (inl p) = ap refuses (q ∙ sym p.1)
          out (inr p) = absurd (p.0 h)
      go false (fails h) = (λ e. inr (h, (ih h).0 e), out)
        where
          out : First n (l ∷ ls) → chain rs v ≡ refuses n
          out (inl p) = absurd (h p.0)
          out (inr p) = (ih h).1 p.1

  gives_step : (r : Rule) (rs : List Rule) (l : Line) (ls : List Line) (v w : A) → Reflects l.when r.broken
      → ((l.when → ⊥) → (chain rs v ≡ gives w) ↔ (Clear ls × (v ≡ w))) → (chain (r ∷ rs) v ≡ gives w) ↔ (Clear (l ∷ ls) × (v ≡ w))
  unfolding chain
  gives_step r rs l ls v w d ih = go r.broken d
    where
      go : (b : Bool) → Reflects l.when b → (cond b (refuses r.number) (chain rs v) ≡ gives w) ↔ (Clear (l ∷ ls) × (v ≡ w))
      go true (holds h) = (λ e. given-refused (sym e), λ p. absurd (p.0.0 h))
      go false (fails h) = (λ e. let r = (ih h).0 e in ((h, r.0), r.1), λ p. (ih h).1 (p.0.1, p.1))

  pub chain_refuses : (rs : List Rule) (ls : List Line) (v : A) (n : ℕ) → Decides rs ls → (chain rs v ≡ refuses n) ↔ First n ls
  unfolding chain
  chain_refuses [] [] v n d = (λ e. given-refused e, λ f. absurd f)
  chain_refuses [] (l ∷ ls) v n d = absurd d
  chain_refuses (r ∷ rs) [] v n d = absurd d
  chain_refuses (r ∷ rs) (l ∷ ls) v n d = refuses_step r rs l ls v n d.0 d.1 (λ h. chain_refuses rs ls v n d.2)

  pub chain_gives : (rs : List Rule) (ls : List Line) (v w : A) → Decides rs ls → (chain rs v ≡ gives w) ↔ (Clear ls × (v ≡ w))
  unfolding chain
  chain_gives [] [] v w d = (λ e. (tt, gives_one e), λ p. ap gives p.1)
  chain_gives [] (l ∷ ls) v w d = absurd d
  chain_gives (r ∷ rs) [] v w d = absurd d
  chain_gives (r ∷ rs) (l ∷ ls) v w d = gives_step r rs l ls v w d.1 (λ h. chain_gives rs ls v w d.2)

  -- a second part that is decided where no line of the first holds
  pub chain_refuses_upon : (rs ss : List Rule) (ks ls : List Line) (v : A) (n : ℕ) → Decides rs ks → (Clear ks → Decides ss ls) → (chain (rs ++ ss) v ≡ refuses n) ↔ First n (ks ++ ls)
  chain_refuses_upon [] ss [] ls v n d e = chain_refuses ss ls v n (e tt)
  chain_refuses_upon [] ss (k ∷ ks) ls v n d e = absurd d
  chain_refuses_upon (r ∷ rs) ss [] ls v n d e = absurd d
  chain_refuses_upon (r ∷ rs) ss (k ∷ ks) ls v n d e = refuses_step r (rs ++ ss) k (ks ++ ls) v n d.0 d.1 (λ h. chain_refuses_upon rs ss ks ls v n d.2 (λ c. e (h, c)))

  pub chain_gives_upon : (rs ss : List Rule) (ks ls : List Line) (v w : A) → Decides rs ks → (Clear ks → Decides ss ls) → (chain (rs ++ ss) v ≡ gives w) ↔ (Clear (ks ++ ls) × (v ≡ w))
  chain_gives_upon [] ss [] ls v w d e = chain_gives ss ls v w (e tt)
  chain_gives_upon [] ss (k ∷ ks) ls v w d e = absurd d
  chain_gives_upon (r ∷ rs) ss [] ls v w d e = absurd d
  chain_gives_upon (r ∷ rs) ss (k ∷ ks) ls v w d e = gives_step r (rs ++ ss) k (ks ++ ls) v w d.1 (λ h. chain_gives_upon rs ss ks ls v w d.2 (λ c. e (h, c)))

  -- what a sequence of tests in the code has shown, and what that says of the chain
  pub chain_broken : (r : Rule) (rs : List Rule) (v : A) → r.broken ≡ true → refuses r.number ≡ chain (r ∷ rs) v
  unfolding chain
  chain_broken r rs v e = rw e

  pub chain_kept : (r : Rule) (rs : List Rule) (v : A) → r.broken ≡ false → chain rs v ≡ chain (r ∷ rs) v
  unfolding chain
  chain_kept r rs v e = rw e

  -- a first part of the chain whose number is known
  pub chain_stop : (rs ss : List Rule) (v : A) → (refusal rs ≡ 0 → ⊥) → refuses (refusal rs) ≡ chain (rs ++ ss) v
  unfolding chain refusal
  chain_stop [] ss v h = absurd (h refl)
  chain_stop (r ∷ rs) ss v h = go r.broken refl (chain_stop rs ss v)
    where
      go : (b : Bool) → r.broken ≡ b → ((refusal rs ≡ 0 → ⊥) → refuses (refusal rs) ≡ chain (rs ++ ss) v) → refuses (cond b r.number (refusal rs)) ≡ cond b (refuses r.number) (chain (rs ++ ss) v)
      go true e ih = refl
      go false e ih = ih (λ z. h (rw e z))

  -- a first part whose answer is known, for whatever value
  pub chain_stops : {B : Type 0} (rs ss : List Rule) (u : B) (v : A) {n : ℕ} → chain rs u ≡ refuses n → refuses n ≡ chain (rs ++ ss) v
  unfolding chain
  chain_stops [] ss u v e = given-refused e
  chain_stops (r ∷ rs) ss u v {n} e = go r.broken refl (chain_stops rs ss u v)
    where
      go : (b : Bool) → r.broken ≡ b → (chain rs u ≡ refuses n → refuses n ≡ chain (rs ++ ss) v) → refuses n ≡ cond b (refuses r.number) (chain (rs ++ ss) v)
      go true q ih = ap refuses (sym (refuses_one (rw q at e)))
      go false q ih = ih (rw q at e)

-- what a chain ends in, where no rule has the number 0
pub chain_ends : {A : Type 0} (P : Answer A → Type 0) (rs : List Rule) (v : A) → Numbered rs → ((n : ℕ) → 0 < n → P (refuses n)) → P (gives v) → P (chain rs v)
unfolding chain
chain_ends P [] v h f g = g
chain_ends P (r ∷ rs) v h f g = go r.broken (chain_ends P rs v h.1 f g)
  where
    go : (b : Bool) → P (chain rs v) → P (cond b (refuses r.number) (chain rs v))
    go true k = f r.number h.0
    go false k = k

pub numbered-append : (rs ss : List Rule) → Numbered rs → Numbered ss → Numbered (rs ++ ss)
numbered-append [] ss h k = k
numbered-append (r ∷ rs) ss h k = (h.0, numbered-append rs ss h.1 k)

-- the number of the first broken rule decides whether a rule is broken
pub refusal_keeps : (r : Rule) (rs : List Rule) → 0 < r.number → refusal (r ∷ rs) ≡ 0 → (r.broken ≡ false) × (refusal rs ≡ 0)
unfolding refusal
refusal_keeps r rs p h = go r.broken refl
  where
    go : (b : Bool) → r.broken ≡ b → (r.broken ≡ false) × (refusal rs ≡ 0)
    go true e = absurd (clash (rw e at h))
      where
        clash : r.number ≡ 0 → ⊥
        clash z = omega arith
    go false e = (e, rw e at h)

-- ---- no rule is broken

abbrev pub Unbroken : List Rule → Type 0
Unbroken [] = Unit {0}
Unbroken (r ∷ rs) = (r.broken ≡ false) × Unbroken rs

pub unbroken-refusal : (rs : List Rule) → Unbroken rs → refusal rs ≡ 0
unfolding refusal
unbroken-refusal [] u = refl
unbroken-refusal (r ∷ rs) u = rw u.0 (unbroken-refusal rs u.1)

pub refusal_unbroken : (rs : List Rule) → Numbered rs → refusal rs ≡ 0 → Unbroken rs
refusal_unbroken [] p e = tt
refusal_unbroken (r ∷ rs) p e = let k = refusal_keeps r rs p.0 e in (k.0, refusal_unbroken rs p.1 k.1)

pub refusal_stops : (rs ss : List Rule) → (refusal rs ≡ 0 → ⊥) → refusal rs ≡ refusal (rs ++ ss)
unfolding refusal
refusal_stops [] ss h = absurd (h refl)
refusal_stops (r ∷ rs) ss h = go r.broken h (refusal_stops rs ss)
  where
    go : (b : Bool) → (cond b r.number (refusal rs) ≡ 0 → ⊥) → ((refusal rs ≡ 0 → ⊥) → refusal rs ≡ refusal (rs ++ ss)) → cond b r.number (refusal rs) ≡ cond b r.number (refusal (rs ++ ss))
    go true h ih = refl
    go false h ih = ih h

unbroken_goes : (rs ss : List Rule) → Unbroken rs → refusal (rs ++ ss) ≡ refusal ss
unfolding refusal
unbroken_goes [] ss u = refl
unbroken_goes (r ∷ rs) ss u = rw u.0 (unbroken_goes rs ss u.1)

pub refusal_goes : (rs ss : List Rule) → Numbered rs → refusal rs ≡ 0 → refusal (rs ++ ss) ≡ refusal ss
refusal_goes rs ss p e = unbroken_goes rs ss (refusal_unbroken rs p e)

pub unbroken-append : (rs ss : List Rule) → Unbroken rs → Unbroken ss → Unbroken (rs ++ ss)
unbroken-append [] ss u v = v
unbroken-append (r ∷ rs) ss u v = (u.0, unbroken-append rs ss u.1 v)

pub append_unbroken : (rs ss : List Rule) → Unbroken (rs ++ ss) → Unbroken rs × Unbroken ss
append_unbroken [] ss u = (tt, u)
append_unbroken (r ∷ rs) ss u = let v = append_unbroken rs ss u.1 in ((u.0, v.0), v.1)

module _ {A : Type 0} where
  pub unbroken_gives : (rs : List Rule) (v : A) → Unbroken rs → chain rs v ≡ gives v
  unfolding chain
  unbroken_gives [] v u = refl
  unbroken_gives (r ∷ rs) v u = sym (chain_kept r rs v u.0) ∙ unbroken_gives rs v u.1

  pub gives_unbroken : (rs : List Rule) (v w : A) → chain rs v ≡ gives w → Unbroken rs × (v ≡ w)
  unfolding chain
  gives_unbroken [] v w e = (tt, gives_one e)
  gives_unbroken (r ∷ rs) v w e = go r.broken e (gives_unbroken rs v w)
    where
      go : (b : Bool) → cond b (refuses r.number) (chain rs v) ≡ gives w → (chain rs v ≡ gives w → Unbroken rs × (v ≡ w)) → ((b ≡ false) × Unbroken rs) × (v ≡ w)
      go true q ih = given-refused (sym q)
      go false q ih = let s = ih q in ((refl, s.0), s.1)

  pub unbroken_after : (rs ss : List Rule) (v : A) → Unbroken rs → chain ss v ≡ chain (rs ++ ss) v
  unbroken_after [] ss v u = refl
  unbroken_after (r ∷ rs) ss v u = unbroken_after rs ss v u.1 ∙ chain_kept r (rs ++ ss) v u.0

  pub chain_after : (rs ss : List Rule) (v : A) → Numbered rs → refusal rs ≡ 0 → chain ss v ≡ chain (rs ++ ss) v
  chain_after rs ss v p h = unbroken_after rs ss v (refusal_unbroken rs p h)

pub chain_goes : {A B : Type 0} (rs ss : List Rule) (u : A) (v : B) {w : A} → chain rs u ≡ gives w → chain ss v ≡ chain (rs ++ ss) v
chain_goes rs ss u v {w} e = unbroken_after rs ss v (gives_unbroken rs u w e).0

-- no line holds where the number of the first broken rule is 0
pub clear-refusal : (rs : List Rule) (ls : List Line) → Numbered rs → Decides rs ls → (refusal rs ≡ 0) ↔ Clear ls
unfolding refusal
clear-refusal [] [] p d = (λ e. tt, λ c. refl)
clear-refusal [] (l ∷ ls) p d = absurd d
clear-refusal (r ∷ rs) [] p d = absurd d
clear-refusal (r ∷ rs) (l ∷ ls) p d = go r.broken d.1 (clear-refusal rs ls p.1 d.2)
  where
    clash : r.number ≡ 0 → ⊥
    clash e = omega (arith, p.0)

    go : (b : Bool) → Reflects l.when b → (refusal rs ≡ 0) ↔ Clear ls → (cond b r.number (refusal rs) ≡ 0) ↔ Clear (l ∷ ls)
    go true (holds h) ih = (λ e. absurd (clash e), λ c. absurd (c.0 h))
    go false (fails h) ih = (λ e. (h, ih.0 e), λ c. ih.1 c.1)

pub first_clear : {X : Type 0} (n : ℕ) (ls : List Line) → First n ls → Clear ls → X
first_clear n [] f c = absurd f
first_clear n (x ∷ ls) (inl p) c = absurd (c.0 p.0)
first_clear n (x ∷ ls) (inr p) c = first_clear n ls p.1 c.1

pub first_one : (m n : ℕ) (ls : List Line) → First m ls → First n ls → m ≡ n
first_one m n [] f g = absurd f
first_one m n (x ∷ ls) (inl p) (inl q) = p.1 ∙ sym q.1
first_one m n (x ∷ ls) (inl p) (inr q) = absurd (q.0 p.0)
first_one m n (x ∷ ls) (inr p) (inl q) = absurd (p.0 q.0)
first_one m n (x ∷ ls) (inr p) (inr q) = first_one m n ls p.1 q.1

-- lines joined: the first of the one list, or none there and the first of the other
pub first-append : (n : ℕ) (ks ls : List Line) → First n (ks ++ ls) ↔ (First n ks ⊎ (Clear ks × First n ls))
first-append n [] ls = (λ f. inr (tt, f), out)
  where
    out : ⊥ ⊎ (Unit {0} × First n ls) → First n ls
    out (inl p) = absurd p
    out (inr p) = p.1
first-append n (k ∷ ks) ls = (into (first-append n ks ls).0, out (first-append n ks ls).1)
  where
    into : (First n (ks ++ ls) → First n ks ⊎ (Clear ks × First n ls)) → First n (k ∷ (ks ++ ls)) → First n (k ∷ ks) ⊎ (Clear (k ∷ ks) × First n ls)
    into ih (inl p) = inl (inl p)
    into ih (inr p) = go (ih p.1)
      where
        go : First n ks ⊎ (Clear ks × First n ls) → First n (k ∷ ks) ⊎ (Clear (k ∷ ks) × First n ls)
        go (inl q) = inl (inr (p.0, q))
        go (inr q) = inr ((p.0, q.0), q.1)

    out : (First n ks ⊎ (Clear ks × First n ls) → First n (ks ++ ls)) → First n (k ∷ ks) ⊎ (Clear (k ∷ ks) × First n ls) → First n (k ∷ (ks ++ ls))
    out ih (inl (inl p)) = inl p
    out ih (inl (inr p)) = inr (p.0, ih (inl p.1))
    out ih (inr p) = inr (p.0.0, ih (inr (p.0.1, p.1)))

pub clear-append : (ks ls : List Line) → Clear (ks ++ ls) ↔ (Clear ks × Clear ls)
clear-append [] ls = (λ c. (tt, c), λ c. c.1)
clear-append (k ∷ ks) ls = let ih = clear-append ks ls in (λ c. let r = ih.0 c.1 in ((c.0, r.0), r.1), λ c. (c.0.0, ih.1 (c.0.1, c.1)))

pub decides-append : (rs ss : List Rule) (ks ls : List Line) → Decides rs ks → Decides ss ls → Decides (rs ++ ss) (ks ++ ls)
decides-append [] ss [] ls d e = e
decides-append [] ss (k ∷ ks) ls d e = absurd d
decides-append (r ∷ rs) ss [] ls d e = absurd d
decides-append (r ∷ rs) ss (k ∷ ks) ls d e = (d.0, d.1, decides-append rs ss ks ls d.2 e)

-- ---- tests that decide statements

pub reflects_yes : {A : Type 0} {b : Bool} → Reflects A b → b ≡ true → A
reflects_yes (holds h) e = h
reflects_yes (fails h) e = absurd (false≢true e)

pub reflects_no : {A : Type 0} {b : Bool} → Reflects A b → b ≡ false → A → ⊥
reflects_no (holds h) e x = true≢false e
reflects_no (fails h) e x = h x

pub reflects_true : {A : Type 0} {b : Bool} → Reflects A b → A → b ≡ true
reflects_true (holds h) a = refl
reflects_true (fails h) a = absurd (h a)

pub reflects_false : {A : Type 0} {b : Bool} → Reflects A b → (A → ⊥) → b ≡ false
reflects_false (holds h) k = absurd (k h)
reflects_false (fails h) k = refl

pub reflects_by : {A : Type 0} (b : Bool) → (b ≡ true → A) → (b ≡ false → A → ⊥) → Reflects A b
reflects_by true f g = holds (f refl)
reflects_by false f g = fails (g refl)

-- a decided statement that is not false holds
pub reflects_stable : {A : Type 0} {b : Bool} → Reflects A b → ((A → ⊥) → ⊥) → A
reflects_stable (holds h) k = h
reflects_stable (fails h) k = absurd (k h)

pub reflects_dec : {A : Type 0} {b : Bool} → Reflects A b → Dec A
reflects_dec (holds h) = yes h
reflects_dec (fails h) = no h

-- two tests of one statement
pub reflects_agree : {A : Type 0} {a b : Bool} → Reflects A a → Reflects A b → a ≡ b
reflects_agree (holds h) r = sym (reflects_true r h)
reflects_agree (fails h) r = sym (reflects_false r h)

pub reflects_iff : {A B : Type 0} {b : Bool} → A ↔ B → Reflects A b → Reflects B b
reflects_iff e (holds h) = holds (e.0 h)
reflects_iff e (fails h) = fails (λ x. h (e.1 x))

pub reflects-not : {A : Type 0} {b : Bool} → Reflects A b → Reflects (A → ⊥) (not b)
reflects-not (holds h) = fails (λ k. k h)
reflects-not (fails h) = holds h

pub reflects-or : {A B : Type 0} {a b : Bool} → Reflects A a → Reflects B b → Reflects (A ⊎ B) (a || b)
reflects-or (holds h) k = holds (inl h)
reflects-or (fails h) (holds k) = holds (inr k)
reflects-or {A} {B} (fails h) (fails k) = fails neither
  where
    neither : A ⊎ B → ⊥
    neither (inl x) = h x
    neither (inr x) = k x

pub reflects-and : {A B : Type 0} {a b : Bool} → Reflects A a → Reflects B b → Reflects (A × B) (a && b)
reflects-and (holds h) (holds k) = holds (h, k)
reflects-and (holds h) (fails k) = fails (λ p. k p.1)
reflects-and (fails h) k = fails (λ p. h p.0)

pub reflects_both : {A B : Type 0} {a b : Bool} → Reflects A a → (A → Reflects B b) → Reflects (A × B) (a && b)
reflects_both (holds h) k = reflects-and (holds h) (k h)
reflects_both (fails h) k = fails (λ p. h p.0)

pub reflects_ltb : (m n : ℕ) → Reflects (m < n) (ltb m n)
reflects_ltb m n = reflects_by (ltb m n) (ltb-true m n) (λ e l. clash (ltb-false m n e) l)
  where
    clash : n ≤ m → m < n → ⊥
    clash h l = omega arith

pub reflects_eqb : (m n : ℕ) → Reflects (m ≡ n) (eqb m n)
reflects_eqb m n = reflects_by (eqb m n) (eqb-true m n) (eqb-false m n)

pub reflects_leb : (m n : ℕ) → Reflects (m ≤ n) (leb m n)
reflects_leb m n = reflects_by (leb m n) (leb-true m n) (λ e l. clash (leb-false m n e) l)
  where
    clash : n < m → m ≤ n → ⊥
    clash h l = omega arith

pub reflects-eq_z : (a b : ℤ) → Reflects (a ≡ b) (eq_z a b)
reflects-eq_z (pos m) (pos n) = reflects_iff (λ e. ap pos e, λ e. cc) (reflects_eqb m n)
reflects-eq_z (pos m) (negsuc n) = fails (pos-ne-negsuc m n)
reflects-eq_z (negsuc m) (pos n) = fails (λ e. pos-ne-negsuc n m (sym e))
reflects-eq_z (negsuc m) (negsuc n) = reflects_iff (λ e. ap negsuc e, λ e. cc) (reflects_eqb m n)

-- b - a of two natural numbers, by any test of a < b
reflects-sub : (a b : ℕ) (t : Bool) → (t ≡ true → a < b) → (t ≡ false → b ≤ a) → Reflects (Pos (sub_ℕ b a)) t
reflects-sub a b true h k = holds (record { by = b - suc a; is = ap (λ (t : Bool). cond t (negsuc (a - suc b)) (pos (b - a))) (le-ltb b a (let l = h refl in omega arith)) ∙ ap pos (let l = h refl in omega arith) })
reflects-sub a b false h k = fails (go (ltb b a))
  where
    go : (t : Bool) → Pos (cond t (negsuc (a - suc b)) (pos (b - a))) → ⊥
    go true p = pos-ne-negsuc (suc p.by) (a - suc b) (sym p.is)
    go false p = let l = k refl in pos-zero p (ap pos (omega arith))

pub reflects_lt_z : (a b : ℤ) → Reflects (Pos (b -ℤ a)) (lt_z a b)
reflects_lt_z (pos zero) (pos n) = reflects_iff (pos_cast from, pos_cast (sym from)) (reflects-sub 0 n (ltb 0 n) (ltb-true 0 n) (ltb-false 0 n))
  where
    from : sub_ℕ n 0 ≡ pos n -ℤ pos 0
    from = ap (λ (t : Bool). cond t (negsuc (0 - suc n)) (pos (n - 0))) (le-ltb n 0 (omega arith)) ∙ ap pos (omega arith)
reflects_lt_z (pos (suc m)) (pos n) = reflects-sub (suc m) n (ltb (suc m) n) (ltb-true (suc m) n) (ltb-false (suc m) n)
reflects_lt_z (pos m) (negsuc n) = fails (λ p. pos-ne-negsuc _ n (sym (pos_cast (-ℤ-+ℤ_cancel (negsuc n) (pos m)) (pos_nn_add p (record { by = m; is = refl }))).is))
reflects_lt_z (negsuc m) (pos n) = holds (record { by = n + m; is = ap pos (omega arith) })
reflects_lt_z (negsuc m) (negsuc n) = reflects-sub (suc n) (suc m) (ltb n m) (λ t. let l = ltb-true n m t in omega arith) (λ t. let l = ltb-false n m t in omega arith)

-- ---- signs

pub is-minus : (s : Sign) → Reflects (s ≡ minus) (is_minus s)
is-minus minus = holds refl
is-minus nought = fails (λ e. minus-nought (sym e))
is-minus plus = fails (λ e. plus_minus e)

pub is-nought : (s : Sign) → Reflects (s ≡ nought) (is_nought s)
is-nought minus = fails (λ e. minus-nought e)
is-nought nought = holds refl
is-nought plus = fails (λ e. plus-nought e)

pub is-plus : (s : Sign) → Reflects (s ≡ plus) (is_plus s)
is-plus minus = fails (λ e. plus_minus (sym e))
is-plus nought = fails (λ e. plus-nought (sym e))
is-plus plus = holds refl

pub reflects_minus : (z : ℤ) → Reflects (Neg z) (is_minus (sign_of z))
reflects_minus z = reflects_iff (neg-sign_of z, sign_of-neg z) (is-minus (sign_of z))

pub reflects-nought : (z : ℤ) → Reflects (z ≡ pos 0) (is_nought (sign_of z))
reflects-nought z = reflects_iff (zero-sign_of z, sign_of-zero z) (is-nought (sign_of z))
