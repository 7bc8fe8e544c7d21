-- What is printed, part by part, and what it is when all that was read was the front of an input.
--
--   on_err         what holds is said of an error
--   stops_on       a front of a part, behind what is written: a front of the whole
--   read_text      the report of what was read is that of the whole input, however long; `read_all`: so is what holds of it
--   stops_first    nothing is a front of a report, and not all of it
use Rattle.std.proofs.Common.{◌≡◌, ◌∙◌, refl, sym, ap, subst, ℕ, ◌<◌, ◌≤◌, List, [], ◌++◌, length, take, get_or, append_assoc, append-nil, length-append, length-take-le, arith, Some, None, IfSome, Result, Ok, Err, OnErr, Bool, ◌⊎◌, inl, inr, true, false, cond, ℤ, ◌==◌}
use Rattle.std.proofs.lemmas.Bool.{cases_lt}
use Rattle.std.proofs.lemmas.List.{get_or_past}
use Rattle.std.proofs.Math.ListN.{get_or-append}
use Rattle.std.specs.declared.option.Option.{Option}
use Rattle.std.specs.Io.KnownBytes.{Appends, Consumes, IsAtEnd}
use Rattle.std.proofs.KnownBytes.{Appends-nil, Appends-trans}
use Rattle.algebra.specs.Answer.{Answer, gives, refuses}
use Rattle.reach.specs.Walks.{Reply, made, done}
use Rattle.surfaces.specs.Calls.{placing_of}
use Rattle.records.specs.Fields.{Bytes}
use Rattle.records.specs.Reading.{coordinates_of}
use Rattle.records.specs.Calls.{read_patch_of}
use Rattle.text.specs.Lines.{patch_line, refused_line}
use Rattle.report.specs.Report.{Ended, first_line, surfaces_text, end_text, end_of, walk_of, walk_text, placed_text, patch_text, report_of}
use Rattle.report.proofs.Promises.{report_long}
use Rattle.streams.specs.Written.{StopsShort}

pub on_err : {T E Q : Type 0} (r : Result T E) → Q → OnErr r Q
on_err (Ok x) q = tt
on_err (Err e) q = q

pub stops_on : (a b c : Option (List ℕ)) (A P B S : List ℕ) → S ≡ A ++ (P ++ B) → Appends a b A → StopsShort b c P → StopsShort a c S
stops_on a b c A P B S e p (f, r, q, h, m) =
    let moved : S ≡ (A ++ f) ++ (r ++ B) =
    e ∙ ap (λ l. A ++ (l ++ B)) q ∙ ap (λ l. A ++ l) (append_assoc f r B) ∙ sym (append_assoc A f (r ++ B)) in
    (A ++ f, r ++ B, moved, omega (arith, h, length-append r B), Appends-trans a b c A f p m)

-- a list that has a front is as long, at least
more : (A B : List ℕ) → 0 < length A → 0 < length (A ++ B)
more A B h = omega (arith, h, length-append A B)

bytes_front : (A B : List ℕ) → Bytes (A ++ B) → Bytes A
bytes_front A B v i = go (cases_lt i (length A))
  where
    go : (i < length A) ⊎ (length A ≤ i) → get_or A i 0 < 256
    go (inl h) = subst (λ k. k < 256) (get_or-append A B 0 i h) (v i)
    go (inr h) = let none : get_or A i 0 ≡ 0 = get_or_past A i 0 h in omega (arith, none)

-- the input has 65,538 bytes or more where the room is full
long_input : (A B : List ℕ) → Bytes (A ++ B) → 65538 ≤ length A → report_of A ≡ report_of (A ++ B)
long_input A B v h = report_long A (bytes_front A B v) h ∙ sym (report_long (A ++ B) v (omega (arith, h, length-append A B)))

pub read_text : (b : Option (List ℕ)) (xs room : List ℕ) (n : ℕ) → Consumes (Some xs) b (take n room) → (n < length room → IsAtEnd b) → n ≤ length room → length room ≡ 65538 → Bytes xs
    → report_of (take n room) ≡ report_of xs
read_text None xs room n c e h l v = absurd c
read_text (Some ys) xs room n c e h l v = go (cases_lt n (length room))
  where
    go : (n < length room) ⊎ (length room ≤ n) → report_of (take n room) ≡ report_of xs
    go (inl m) = ap report_of (sym (c ∙ ap (λ l. take n room ++ l) (e m) ∙ append-nil (take n room)))
    go (inr m) = long_input (take n room) ys (subst Bytes c v) (omega (arith, m, h, l, length-take-le n room h)) ∙ ap report_of (sym c)

pub read_all : (P : List ℕ → Type 0) (a b : Option (List ℕ)) (room : List ℕ) (n : ℕ) → Consumes a b (take n room) → (n < length room → IsAtEnd b) → n ≤ length room → length room ≡ 65538
    → P (report_of (take n room)) → IfSome a (λ xs. Bytes xs → P (report_of xs))
read_all P None b room n c e h l p = tt
read_all P (Some xs) b room n c e h l p = λ v. subst P (read_text b xs room n c e h l v) p

-- ---- every report has a text

refused_some : (n : ℕ) → 0 < length (refused_line n)
unfolding refused_line
refused_some n = omega arith

surfaces_some : (l : List ℤ) (x : Ended) (d : Bool) → 0 < length (surfaces_text l x d)
unfolding surfaces_text first_line patch_line
surfaces_some l x d = omega arith

end_some : (l : List ℤ) (x : Ended) (a : Answer Reply) → 0 < length (end_text l x a)
end_some l x (gives made) = surfaces_some l x false
end_some l x (gives done) = surfaces_some l x true
end_some l x (refuses n) = go (n == 11)
  where
    go : (b : Bool) → 0 < length (cond b (surfaces_text l x false) (refused_line n))
    go true = surfaces_some l x false
    go false = refused_some n

placed_some : (l : List ℤ) (a : Answer (List ℕ)) → 0 < length (placed_text l a)
unfolding walk_text
placed_some l (gives w) = end_some l (end_of l w) (walk_of l w).answer
placed_some l (refuses n) = refused_some n

patch_some : (l : List ℤ) (a : Answer ℕ) → 0 < length (patch_text l a)
patch_some l (gives n) = placed_some l (placing_of l)
patch_some l (refuses n) = refused_some n

report_some : (b : List ℕ) → 0 < length (report_of b)
unfolding report_of
report_some b = patch_some (coordinates_of b) (read_patch_of b).answer

pub stops_first : (a x : Option (List ℕ)) → IfSome a (λ xs. Bytes xs → StopsShort x x (report_of xs))
stops_first None x = tt
stops_first (Some xs) x = λ v. ([], report_of xs, refl, report_some xs, Appends-nil x)
