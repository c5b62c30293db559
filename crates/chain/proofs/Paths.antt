-- Paths along links, and chains as paths that end.
use Rattle.std.proofs.Common.{◌≡◌, ℕ, zero, suc, ◌-◌, ◌<◌, ◌≤◌, ◌≢◌, List, [], ◌∷◌, ◌++◌, length, set, sym, refl, ap, ◌∙◌, subst, ap₂, ⊎_elim, arith, length-set}
use Rattle.std.proofs.lemmas.List.{get_or_past, get_or-set_same, get_or-set_other}
use Rattle.std.proofs.lemmas.Bool.{cases_lt, cases_eq}
use Rattle.chain.specs.Times.{times}
use Rattle.chain.specs.Chain.{next, walk, gone, rest, chain, end, Ends, Path, last, tail, without, Cut, inserted, removed, Becomes}
use Rattle.chain.proofs.Times.{hit_same, hit_other, times-append, times_here, times_cases, times_apart, times-last, without_here, few}

-- ---- one link written

pub next-set : (links : List ℕ) (n v : ℕ) → n < length links → next (set links n v) n ≡ v
next-set links n v h = get_or-set_same links n v n h

pub next_other : (links : List ℕ) (n v k : ℕ) → k ≢ n → next (set links n v) k ≡ next links k
next_other links n v k ne = get_or-set_other links n k v k ne

-- ---- paths

pub path_row : (links : List ℕ) (a : ℕ) (xs : List ℕ) (b n : ℕ) → Path links a xs b → 0 < times n xs → (0 < n) × (n < length links)
path_row links a [] b n p h = absurd (omega arith)
path_row links a (x ∷ xs) b n p h =
    ⊎_elim (λ e. subst (λ z. (0 < z) × (z < length links)) e p.1) (path_row links x xs b n p.2) (times_cases n x xs h)

pub path_join : (links : List ℕ) (a : ℕ) (xs ys : List ℕ) (m b : ℕ) → Path links a xs m → Path links (last a xs) ys b → m ≡ next links (last a xs) → Path links a (xs ++ ys) b
path_join links a [] ys m b p q e = q
path_join links a (x ∷ xs) ys m b p q e = (p.0, p.1, path_join links x xs ys m b p.2 q e)

-- the same rows from another start, over links that agree on them
pub path_moved : (links links' : List ℕ) (a a' : ℕ) (xs : List ℕ) (b : ℕ) → length links' ≡ length links → next links' a' ≡ next links a → ((k : ℕ) → 0 < times k xs → next links' k ≡ next links k) → Path links a xs b → Path links' a' xs b
path_moved links links' a a' [] b l e same p = e ∙ p
path_moved links links' a a' (x ∷ xs) b l e same p =
    let here : 0 < times x (x ∷ xs) = let h = times_here x xs in omega arith in
    let on : Path links' x xs b = path_moved links links' x x xs b l (same x here) (λ k h. same k (omega arith)) p.2 in
    (e ∙ p.0, (p.1.0, omega (arith, p.1.1)), on)

pub path_unique : (links : List ℕ) (a : ℕ) (xs ys : List ℕ) → Path links a xs 0 → Path links a ys 0 → xs ≡ ys
path_unique links a [] [] p q = refl
path_unique links a [] (y ∷ ys) p q = absurd (omega (arith, p, q.0, q.1))
path_unique links a (x ∷ xs) [] p q = absurd (omega (arith, q, p.0, p.1))
path_unique links a (x ∷ xs) (y ∷ ys) p q =
    let e : x ≡ y = sym p.0 ∙ q.0 in
    ap₂ (λ z zs. z ∷ zs) e (path_unique links y xs ys (subst (λ z. Path links z xs 0) e p.2) q.2)

-- from a row of a path that ends a shorter one leads on
path_later : (links : List ℕ) (a : ℕ) (xs : List ℕ) (n : ℕ) → Path links a xs 0 → 0 < times n xs → (ys : List ℕ) × Path links n ys 0 × (length ys < length xs)
path_later links a [] n p h = absurd (omega arith)
path_later links a (x ∷ xs) n p h =
    ⊎_elim (λ e. (xs, subst (λ z. Path links z xs 0) e p.2, omega arith))
    (λ q. let r = path_later links x xs n p.2 q in (r.0, r.1, omega (arith, r.2))) (times_cases n x xs h)

pub path_fresh : (links : List ℕ) (n : ℕ) (xs : List ℕ) → Path links n xs 0 → times n xs ≡ 0
path_fresh links n xs p =
    ⊎_elim (λ h. let r = path_later links n xs n p h in let e = ap length (path_unique links n xs r.0 p r.1) in absurd (omega (arith, e, r.2))) (λ z. omega arith) (cases_lt 0 (times n xs))

pub path_once : (links : List ℕ) (a : ℕ) (xs : List ℕ) → Path links a xs 0 → (k : ℕ) → times k xs ≤ 1
path_once links a [] p k = omega arith
path_once links a (x ∷ xs) p k =
    ⊎_elim (λ e. let f = path_fresh links x xs p.2 in let q = ap (λ z. times z xs) e in let h = hit_same x k e in omega arith)
    (λ ne. let r = path_once links x xs p.2 k in let h = hit_other x k ne in omega arith) (cases_eq x k)

-- 0 is no row
path_zero : (links : List ℕ) (a : ℕ) (xs : List ℕ) (b : ℕ) → Path links a xs b → times 0 xs ≡ 0
path_zero links a xs b p =
    ⊎_elim (λ h. let r = path_row links a xs b 0 p h in absurd (omega (arith, r.0))) (λ z. omega arith) (cases_lt 0 (times 0 xs))

pub path_few : (links : List ℕ) (a : ℕ) (xs : List ℕ) → Path links a xs 0 → length xs ≤ length links
path_few links a xs p =
    few (length links) xs (path_once links a xs p) (λ k h. let r = path_row links a xs 0 k p h in (r.0, omega (arith, r.1)))

pub path_room : (links : List ℕ) (a : ℕ) (xs : List ℕ) → 0 < length links → Path links a xs 0 → length xs < length links
path_room links a xs some p =
    let l = few (length links - 1) xs (path_once links a xs p) (λ k h. let r = path_row links a xs 0 k p h in (r.0, omega (arith, r.1))) in
    omega arith

-- ---- chains

gone_stuck : (f : ℕ) (links : List ℕ) (n : ℕ) → 0 < n → length links ≤ n → gone f links n ≡ n
gone_stuck zero links n h l = refl
gone_stuck (suc f) links zero h l = absurd (omega arith)
gone_stuck (suc f) links (suc k) h l = ap (gone f links) (get_or_past links (suc k) (suc k) l) ∙ gone_stuck f links (suc k) h l

walk_path : (f : ℕ) (links : List ℕ) (a n : ℕ) → next links a ≡ n → gone f links n ≡ 0 → Path links a (walk f links n) 0
walk_path zero links a n e g = e ∙ g
walk_path (suc f) links a zero e g = e
walk_path (suc f) links a (suc k) e g =
    ⊎_elim (λ l. (e, (omega arith, l), walk_path f links (suc k) (next links (suc k)) refl g))
    (λ l. absurd (let q = gone_stuck (suc f) links (suc k) (omega arith) l in omega (arith, g, q))) (cases_lt (suc k) (length links))

path_walk : (f : ℕ) (links : List ℕ) (a n : ℕ) (xs : List ℕ) → length xs ≤ f → next links a ≡ n → Path links a xs 0 → (walk f links n ≡ xs) × (gone f links n ≡ 0)
path_walk zero links a n [] l e p = (refl, sym e ∙ p)
path_walk zero links a n (x ∷ xs) l e p = absurd (omega arith)
path_walk (suc f) links a zero [] l e p = (refl, refl)
path_walk (suc f) links a (suc k) [] l e p = absurd (omega (arith, e, p))
path_walk (suc f) links a zero (x ∷ xs) l e p = absurd (omega (arith, e, p.0, p.1))
path_walk (suc f) links a (suc k) (x ∷ xs) l e p =
    let q : x ≡ suc k = sym p.0 ∙ e in
    let r = path_walk f links (suc k) (next links (suc k)) xs (omega arith) refl (subst (λ z. Path links z xs 0) q p.2) in
    (ap₂ (λ z zs. z ∷ zs) (sym q) r.0, r.1)

pub chain_path : (links : List ℕ) → Ends links → Path links 0 (chain links) 0
unfolding rest end
chain_path links e = walk_path (length links) links 0 (next links 0) refl e

pub chain_is : (links : List ℕ) (xs : List ℕ) → Path links 0 xs 0 → (chain links ≡ xs) × Ends links
unfolding rest end
chain_is links xs p = path_walk (length links) links 0 (next links 0) xs (path_few links 0 xs p) refl p

pub rest_is : (links : List ℕ) (a n : ℕ) (xs : List ℕ) → next links a ≡ n → Path links a xs 0 → rest links n ≡ xs
unfolding rest
rest_is links a n xs e p = (path_walk (length links) links a n xs (path_few links a xs p) e p).0

pub chain_none : (links : List ℕ) → next links 0 ≡ 0 → (chain links ≡ []) × Ends links
chain_none links e = chain_is links [] e

-- no more rows than there are
pub chain_room : (links : List ℕ) → 0 < length links → Ends links → length (chain links) < length links
chain_room links some e = path_room links 0 (chain links) some (chain_path links e)

-- ---- another chain through the same rows

pub other_chain : (links links' touched : List ℕ) → length links' ≡ length links → next links' 0 ≡ next links 0 → ((k : ℕ) → 0 < k → times k touched ≡ 0 → next links' k ≡ next links k) → ((k : ℕ) → 0 < times k (chain links) → times k touched ≡ 0) → Ends links → (chain links' ≡ chain links) × Ends links'
other_chain links links' touched l h same apart e =
    let p = chain_path links e in
    chain_is links' (chain links) (path_moved links links' 0 0 (chain links) 0 l h (λ k m. same k (path_row links 0 (chain links) 0 k p m).0 (apart k m)) p)

-- ---- a row put in behind row b

insert_path : (links : List ℕ) (a : ℕ) (xs ys : List ℕ) (b n : ℕ) → Path links a (xs ++ ys) b → a < length links → ((k : ℕ) → times k (a ∷ (xs ++ ys)) ≤ 1) → times n (a ∷ (xs ++ ys)) ≡ 0 → 0 < n → n < length links → Path (inserted links (last a xs) n) a (xs ++ (n ∷ ys)) b
insert_path links a [] ys b n p la once out hn ln =
    let one = set links n (next links a) in
    let l1 = length-set links n (next links a) in
    let l2 = length-set one a n in
    let na : n ≢ a = λ e. let h = hit_same a n (sym e) in omega arith in
    let outa : times a ys ≡ 0 = let h = times_here a ys in let o = once a in omega arith in
    let outn : times n ys ≡ 0 = omega arith in
    let at : next (set one a n) n ≡ next links a = next_other one a n n na ∙ next-set links n (next links a) ln in (
      next-set one a n (omega arith),
      (hn, omega arith),
      path_moved links (set one a n) a n ys b (omega arith) at (λ k h. next_other one a n k (times_apart a k ys outa h) ∙ next_other links n (next links a) k (times_apart n k ys outn h)) p,
    )
insert_path links a (x ∷ xs) ys b n p la once out hn ln =
    let z = last x xs in
    let one = set links n (next links z) in
    let l1 = length-set links n (next links z) in
    let l2 = length-set one z n in
    let ta = times-append a xs ys in
    let oa : times a (x ∷ xs) ≡ 0 = let h = times_here a (x ∷ (xs ++ ys)) in let o = once a in omega arith in
    let na : a ≢ n = λ e. let h = hit_same a n e in omega arith in
    let az : a ≢ z = λ e. times_apart a z (x ∷ xs) oa (times-last x xs) (sym e) in
    let same : next (set one z n) a ≡ next links a = next_other one z n a az ∙ next_other links n (next links z) a na in (
      same ∙ p.0,
      (p.1.0, omega (arith, p.1.1)),
      insert_path links x xs ys b n p.2 p.1.1 (λ k. let o = once k in omega arith) (omega arith) hn ln,
    )

-- ---- the row behind row b taken out

remove_path : (links : List ℕ) (a : ℕ) (xs : List ℕ) (n : ℕ) (ys : List ℕ) (b : ℕ) → Path links a (xs ++ (n ∷ ys)) b → a < length links → ((k : ℕ) → times k (a ∷ (xs ++ (n ∷ ys))) ≤ 1) → Path (set (set links (last a xs) (next links n)) n 0) a (xs ++ ys) b
remove_path links a [] n ys b p la once =
    let one = set links a (next links n) in
    let l1 = length-set links a (next links n) in
    let l2 = length-set one n 0 in
    let na : a ≢ n = λ e. let h = hit_same n a (sym e) in let q = times_here a (n ∷ ys) in let o = once a in omega arith in
    let outa : times a ys ≡ 0 = let h = times_here a (n ∷ ys) in let o = once a in omega arith in
    let outn : times n ys ≡ 0 = let h = times_here n ys in let o = once n in omega arith in
    let at : next (set one n 0) a ≡ next links n = next_other one n 0 a na ∙ next-set links a (next links n) la in
    path_moved links (set one n 0) n a ys b (omega arith) at (λ k h. next_other one n 0 k (times_apart n k ys outn h) ∙ next_other links a (next links n) k (times_apart a k ys outa h)) p.2
remove_path links a (x ∷ xs) n ys b p la once =
    let z = last x xs in
    let one = set links z (next links n) in
    let l1 = length-set links z (next links n) in
    let l2 = length-set one n 0 in
    let ta = times-append a xs (n ∷ ys) in
    let here = times_here a (x ∷ (xs ++ (n ∷ ys))) in
    let o = once a in
    let oa : times a (x ∷ xs) ≡ 0 = omega arith in
    let az : a ≢ z = λ e. times_apart a z (x ∷ xs) oa (times-last x xs) (sym e) in
    let an : a ≢ n = λ e. let h = hit_same n a (sym e) in omega arith in
    let same : next (set one n 0) a ≡ next links a = next_other one n 0 a an ∙ next_other links z (next links n) a az in
    (same ∙ p.0, (p.1.0, omega (arith, p.1.1)), remove_path links x xs n ys b p.2 p.1.1 (λ k. let o = once k in omega arith))

-- ---- a chain cut in two

pub cut_none : (links : List ℕ) → Ends links → Cut links 0 (next links 0) [] (chain links)
cut_none links e = record { front_path = refl; back_path = chain_path links e; before_is = refl; at_is = refl }

pub cut_whole : (links : List ℕ) (before at : ℕ) (front back : List ℕ) → Cut links before at front back → Path links 0 (front ++ back) 0
cut_whole links before at front back c =
    path_join links 0 front back at 0 c.front_path (subst (λ z. Path links z back 0) c.before_is c.back_path) (c.at_is ∙ ap (next links) c.before_is)

pub cut_chain : (links : List ℕ) (before at : ℕ) (front back : List ℕ) → Cut links before at front back → (chain links ≡ front ++ back) × Ends links
cut_chain links before at front back c = chain_is links (front ++ back) (cut_whole links before at front back c)

pub last_push : (a : ℕ) (xs : List ℕ) (n : ℕ) → last a (xs ++ (n ∷ [])) ≡ n
last_push a [] n = refl
last_push a (x ∷ xs) n = last_push x xs n

path_push : (links : List ℕ) (a : ℕ) (xs : List ℕ) (n m : ℕ) → Path links a xs n → 0 < n → n < length links → next links n ≡ m → Path links a (xs ++ (n ∷ [])) m
path_push links a [] n m p h l e = (p, (h, l), e)
path_push links a (x ∷ xs) n m p h l e = (p.0, p.1, path_push links x xs n m p.2 h l e)

path_end : (links : List ℕ) (a : ℕ) (xs : List ℕ) (b : ℕ) → Path links a xs b → next links (last a xs) ≡ b
path_end links a [] b p = p
path_end links a (x ∷ xs) b p = path_end links x xs b p.2

pub cut_last : (links : List ℕ) (before : ℕ) → before ≡ last 0 (chain links) → Ends links → Cut links before 0 (chain links) []
cut_last links before b e =
    let p = chain_path links e in
    let q : next links before ≡ 0 = ap (next links) b ∙ path_end links 0 (chain links) 0 p in
    record { front_path = p; back_path = q; before_is = b; at_is = sym q }

-- one row on
pub record Onward (links : List ℕ) (at : ℕ) (front back : List ℕ) : Type 0 where
  pub more : List ℕ
  pub back_is : back ≡ at ∷ more
  pub row : (0 < at) × (at < length links)
  pub cut : Cut links at (next links at) (front ++ (at ∷ [])) more
  pub shorter : length (rest links (next links at)) < length (rest links at)

pub cut_on : (links : List ℕ) (before at : ℕ) (front back : List ℕ) → Cut links before at front back → at ≢ 0 → Onward links at front back
cut_on links before at front [] c ne = absurd (ne (c.at_is ∙ c.back_path))
cut_on links before at front (x ∷ more) c ne =
    let p = c.back_path in
    let e : x ≡ at = sym p.0 ∙ sym c.at_is in
    let row = subst (λ z. (0 < z) × (z < length links)) e p.1 in
    let on : Path links at more 0 = subst (λ z. Path links z more 0) e p.2 in
    let was = ap length (rest_is links before at (x ∷ more) (sym c.at_is) p) in
    let is = ap length (rest_is links at (next links at) more refl on) in
    record {
      more = more;
      back_is = ap (λ z. z ∷ more) e;
      row = row;
      cut = record {
        front_path = path_push links 0 front at (next links at) c.front_path row.0 row.1 refl;
        back_path = on;
        before_is = sym (last_push 0 front at);
        at_is = refl;
      };
      shorter = omega arith;
    }

-- the row before a cut is a row, or 0
pub cut_before : (links : List ℕ) (before at : ℕ) (front back : List ℕ) → Cut links before at front back → 0 < length links → before < length links
cut_before links before at [] back c l = subst (λ z. z < length links) (sym c.before_is) l
cut_before links before at (x ∷ xs) back c l =
    subst (λ z. z < length links) (sym c.before_is) (path_row links 0 (x ∷ xs) at (last x xs) c.front_path (times-last x xs)).1

-- ---- what the two changes come to

becomes : (links links' : List ℕ) (xs touched : List ℕ) → 0 < length links → length links' ≡ length links → Path links' 0 xs 0 → ((n : ℕ) → 0 < n → times n touched ≡ 0 → next links' n ≡ next links n) → Becomes links links' xs touched
becomes links links' xs touched some len p e =
    let r = chain_is links' xs p in
    record {
      order = r.0;
      ends = r.1;
      once = path_once links' 0 xs p;
      path = p;
      elsewhere = e;
      others = λ g ends apart. let was = length-set links 0 g in let is = length-set links' 0 g in
          other_chain (set links 0 g) (set links' 0 g) touched (omega arith) (next-set links' 0 g (omega arith) ∙ sym (next-set links 0 g some))
          (λ k h z. let nz : k ≢ 0 = λ q. omega arith in next_other links' 0 g k nz ∙ e k h z ∙ sym (next_other links 0 g k nz)) apart ends;
    }

pub becomes_at : (links links' links'' : List ℕ) (xs touched : List ℕ) → links'' ≡ links' → Becomes links links' xs touched → Becomes links links'' xs touched
becomes_at links links' links'' xs touched e b = subst (λ z. Becomes links z xs touched) (sym e) b

pub becomes_list : (links links' : List ℕ) (xs ys touched : List ℕ) → xs ≡ ys → Becomes links links' xs touched → Becomes links links' ys touched
becomes_list links links' xs ys touched e b = subst (λ z. Becomes links links' z touched) e b

once_from_head : (links xs : List ℕ) → Path links 0 xs 0 → (k : ℕ) → times k (0 ∷ xs) ≤ 1
once_from_head links xs p k =
    ⊎_elim (λ e. let z = path_zero links 0 xs 0 p in let q = ap (λ m. times m xs) e in let h = hit_same 0 k e in omega arith)
    (λ ne. let o = path_once links 0 xs p k in let h = hit_other 0 k ne in omega arith) (cases_eq 0 k)

module _ (links : List ℕ) (before at : ℕ) (front back : List ℕ) (c : Cut links before at front back) where
  whole : Path links 0 (front ++ back) 0
  whole = cut_whole links before at front back c

  -- a row of the chain, or the head
  known : 0 < length links → (k : ℕ) → 0 < k → times k (chain links) ≡ 0 → k ≢ before
  known l k h out e =
      let w = ap (times k) (cut_chain links before at front back c).0 ∙ times-append k front back in
      go front c.before_is (omega arith)
    where
      go : (xs : List ℕ) → before ≡ last 0 xs → times k xs ≡ 0 → ⊥
      go [] b z = omega (arith, b, e, h)
      go (x ∷ xs) b z = times_apart k (last x xs) (x ∷ xs) z (times-last x xs) (sym (e ∙ b))

  pub put_in : (n : ℕ) → 0 < n → n < length links → times n (chain links) ≡ 0 → Becomes links (inserted links before n) (front ++ (n ∷ back)) (n ∷ chain links)
  put_in n h l out =
      let w = ap (times n) (cut_chain links before at front back c).0 in
      let out0 : times n (0 ∷ (front ++ back)) ≡ 0 = let z = hit_other 0 n (λ e. omega arith) in omega arith in
      let p = insert_path links 0 front back 0 n whole (omega arith) (once_from_head links (front ++ back) whole) out0 h l in
      let l1 = length-set links n (next links before) in
      let l2 = length-set (set links n (next links before)) before n in
      becomes links (inserted links before n) (front ++ (n ∷ back)) (n ∷ chain links) (omega arith) (omega arith) (subst (λ z. Path (inserted links z n) 0 (front ++ (n ∷ back)) 0) (sym c.before_is) p)
      (λ k hk o. let ne : k ≢ n = λ e. let z = hit_same n k (sym e) in omega arith in
      let nb = known (omega arith) k hk (omega arith) in
      next_other (set links n (next links before)) before n k nb ∙ next_other links n (next links before) k ne)

  pub take_out : at ≢ 0 → 0 < length links → Becomes links (removed links before) (without at (chain links)) (chain links)
  take_out ne l =
      let o = cut_on links before at front back c ne in
      let more = o.more in
      let is : front ++ back ≡ front ++ (at ∷ more) = ap (λ z. front ++ z) o.back_is in
      let p : Path links 0 (front ++ (at ∷ more)) 0 = subst (λ z. Path links 0 z 0) is whole in
      let all : chain links ≡ front ++ (at ∷ more) = (cut_chain links before at front back c).0 ∙ is in
      let once = once_from_head links (front ++ (at ∷ more)) p in
      let gone = remove_path links 0 front at more 0 p l once in
      let here = times-append at front (at ∷ more) in
      let one = times_here at more in
      let w = ap (times at) all in
      let out : times at front ≡ 0 = let u = once at in omega arith in
      let taken : without at (chain links) ≡ front ++ more = ap (without at) all ∙ without_here at front more out in
      let cut : List ℕ → ℕ → Type 0 = λ xs z. Path (set (set links before (next links z)) z 0) 0 xs 0 in
      let q : cut (front ++ more) at = subst (λ z. Path (set (set links z (next links at)) at 0) 0 (front ++ more) 0) (sym c.before_is) gone in
      let n = next links before in
      let l1 = length-set links before (next links n) in
      let l2 = length-set (set links before (next links n)) n 0 in
      becomes links (removed links before) (without at (chain links)) (chain links) l (omega arith) (subst (λ z. cut z n) (sym taken) (subst (cut (front ++ more)) c.at_is q))
      (λ k h z. let na : k ≢ n = λ e. let d = ap (λ m. times m (chain links)) (e ∙ sym c.at_is) in omega arith in
      next_other (set links before (next links n)) n 0 k na ∙ next_other links before (next links n) k (known l k h z))

  -- the row that was taken has no link
  pub take_loose : at < length links → next (removed links before) at ≡ 0
  take_loose l =
      let n = next links before in
      let h = length-set links before (next links n) in
      ap (next (removed links before)) c.at_is ∙ next-set (set links before (next links n)) n 0 (omega (arith, c.at_is))

pub took_first : (links : List ℕ) → 0 < length links → Ends links → next links 0 ≢ 0 → Becomes links (removed links 0) (tail (chain links)) (chain links)
took_first links l e ne =
    let c = cut_none links e in
    let o = cut_on links 0 (next links 0) [] (chain links) c ne in
    becomes_list links (removed links 0) (without (next links 0) (chain links)) (tail (chain links)) (chain links)
    (ap (without (next links 0)) o.back_is ∙ without_here (next links 0) [] o.more refl ∙ sym (ap tail o.back_is))
    (take_out links 0 (next links 0) [] (chain links) c ne l)

pub took_none : (links : List ℕ) → 0 < length links → next links 0 ≡ 0 → Becomes links links (tail (chain links)) (chain links)
took_none links l e = becomes_list links links [] _ _ (sym (ap tail (chain_none links e).0)) (becomes links links [] (chain links) l refl e (λ n h o. refl))

pub first_row : (links : List ℕ) → Ends links → next links 0 ≢ 0 → (0 < next links 0) × (next links 0 < length links)
first_row links e ne = (cut_on links 0 (next links 0) [] (chain links) (cut_none links e) ne).row
