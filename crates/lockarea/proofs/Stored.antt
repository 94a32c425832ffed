-- Locks as octets in the store, there and back. Assumes nothing.
use Prim.Native.Nat.{ℕ, ◌+◌, ◌*◌, ◌≤◌, ◌<◌}
use mathlib.Core.Path.{◌≡◌, refl, sym, ap, ap₂, ◌∙◌}
use mathlib.Core.List.{List, [], ◌∷◌, ◌++◌, map, map-append}
use native.Mathlib.Numerals.{add-one}
use native.Mathlib.Nat.{zero-add, add-zero}
use lib.Dec.{lit<}
use native.Mathlib.Omega.{arith}
use lib.ListN.{length, take, drop, set, get_or, length-append, length-map}
use lib.Seq.{take-suc, take-suc-set, length-take-le, take_at, drop_at, take_all, take-add}
use Rattle.octets.specs.Parts.{part, put, rows, joined}
use Rattle.octets.specs.Numbers.{number, octets, u16_at, Octets}
use Rattle.octets.proofs.Puts.{part_length, part-part, put-part, put-append}
use Rattle.octets.proofs.Rows.{Wide, rows-length, rows_snoc, rows-wide, rows-octets, joined-append, joined-one, joined-rows, length-joined, rows-joined}
use Rattle.octets.proofs.Numbers.{octets-length, u16_at-part, octets-number, octets-part, number-octets, number_lt}
use Rattle.octets.specs.Each.{All}
use Rattle.locks.specs.declared.Lock.{Lock}
use Rattle.locks.proofs.Sound.{LockFits}
use Rattle.lockarea.specs.Area.{lock_width, lock_octets, lock_from, locks_in, locks_octets}

-- ---- how many octets

pub lock-octets-length : (l : Lock) → length (lock_octets l) ≡ lock_width
unfolding lock_octets
lock-octets-length l = length-append (octets 8 l.uid) (octets 2 l.left) ∙ ap₂ ◌+◌ (octets-length 8 l.uid) (octets-length 2 l.left)

octets-wide : (ls : List Lock) → Wide lock_width (map lock_octets ls)
unfolding Wide
octets-wide [] = tt
octets-wide (l ∷ ls) = (lock-octets-length l, octets-wide ls)

pub locks-octets-length : (ls : List Lock) → length (locks_octets ls) ≡ lock_width * length ls
unfolding locks_octets
locks-octets-length ls = length-joined lock_width (map lock_octets ls) (octets-wide ls) ∙ ap (λ (n : ℕ). lock_width * n) (length-map ls lock_octets)

pub locks-in-length : (n : ℕ) (p : List ℕ) → length (locks_in n p) ≡ n
unfolding locks_in
locks-in-length n p = length-map (rows n lock_width p) lock_from ∙ rows-length n lock_width p

-- ---- one lock

-- read at a place
pub lock-at : (at : ℕ) (p : List ℕ) → lock_from (part at lock_width p) ≡ record { uid = number (part at 8 p); left = u16_at (at + 8) p }
unfolding lock_from
lock-at at p =
    let e : number (part 0 8 (part at lock_width p)) ≡ number (part at 8 p) = ap number (part-part 0 8 at lock_width p (lit< tt) ∙ rw add-zero) in
    ap₂ (λ (x y : ℕ). record { uid = x; left = y }) e (u16_at-part 8 at lock_width p (lit< tt))

-- written at a place
pub put-lock : (at : ℕ) (l : Lock) (p : List ℕ) → put at (lock_octets l) p ≡ put (at + 8) (octets 2 l.left) (put at (octets 8 l.uid) p)
unfolding lock_octets
put-lock at l p =
    put-append at (octets 8 l.uid) (octets 2 l.left) p
    ∙ ap (λ (k : ℕ). put (at + k) (octets 2 l.left) (put at (octets 8 l.uid) p)) (octets-length 8 l.uid)

-- ---- one lock more

pub octets-append : (xs ys : List Lock) → locks_octets (xs ++ ys) ≡ locks_octets xs ++ locks_octets ys
unfolding locks_octets
octets-append xs ys = ap joined (map-append lock_octets xs ys) ∙ joined-append (map lock_octets xs) (map lock_octets ys)

pub octets-snoc : (ls : List Lock) (l : Lock) → locks_octets (ls ++ (l ∷ [])) ≡ locks_octets ls ++ lock_octets l
unfolding locks_octets
octets-snoc ls l = octets-append ls (l ∷ []) ∙ ap (λ (r : List ℕ). locks_octets ls ++ r) (joined-one (lock_octets l))

-- a lock is written behind the others
pub put-snoc : (ls : List Lock) (l : Lock) (p : List ℕ) → put 0 (locks_octets (ls ++ (l ∷ []))) p ≡ put (lock_width * length ls) (lock_octets l) (put 0 (locks_octets ls) p)
put-snoc ls l p =
    ap (λ (r : List ℕ). put 0 r p) (octets-snoc ls l)
    ∙ put-append 0 (locks_octets ls) (lock_octets l) p
    ∙ ap (λ (k : ℕ). put k (lock_octets l) (put 0 (locks_octets ls) p)) (zero-add (length (locks_octets ls)) ∙ locks-octets-length ls)

pub locks-in-snoc : (n : ℕ) (p : List ℕ) → locks_in (n + 1) p ≡ locks_in n p ++ (lock_from (part (lock_width * n) lock_width p) ∷ [])
unfolding locks_in
locks-in-snoc n p = rw (add-one, rows_snoc) (map-append lock_from (rows n lock_width p) (part (lock_width * n) lock_width p ∷ []))

pub no-locks : (n : ℕ) (p : List ℕ) → n ≡ 0 → locks_in n p ≡ []
unfolding locks_in rows
no-locks n p e = rw e

-- a turn of a loop that reads locks into a list
pub loaded-none : (a : List Lock) (p : List ℕ) → take 0 a ≡ locks_in 0 p
unfolding locks_in rows
loaded-none a p = refl

pub loaded-more : (a : List Lock) (i : ℕ) (l : Lock) (p : List ℕ) → i < length a → take i a ≡ locks_in i p → l ≡ lock_from (part (lock_width * i) lock_width p) → take (i + 1) (set a i l) ≡ locks_in (i + 1) p
loaded-more a i l p h e k = rw (locks-in-snoc, add-one, take-suc-set a i l h, e, k)

-- a turn of a loop that writes the locks of a list
pub saved-none : (a : List Lock) (p : List ℕ) → p ≡ put 0 (locks_octets (take 0 a)) p
unfolding locks_octets joined put
saved-none a p = refl

pub saved-more : (a : List Lock) (i : ℕ) (d : Lock) (p : List ℕ) → i < length a → put (lock_width * i) (lock_octets (get_or a i d)) (put 0 (locks_octets (take i a)) p) ≡ put 0 (locks_octets (take (i + 1) a)) p
saved-more a i d p h =
    let e : length (take i a) ≡ i = length-take-le i a (omega arith) in
    sym (rw (add-one, take-suc a i d h, put-snoc, e))

-- ---- from octets to locks and back

pub octets-lock : (r : List ℕ) → length r ≡ lock_width → Octets r → lock_octets (lock_from r) ≡ r
unfolding lock_octets lock_from u16_at part
octets-lock r e h =
    let uid : length (part 0 8 r) ≡ 8 = part_length 0 8 r (omega arith) in
    let left : length (part 8 2 r) ≡ 2 = part_length 8 2 r (omega arith) in
    ap₂ ◌++◌
    (ap (λ (k : ℕ). octets k (number (part 0 8 r))) (sym uid) ∙ octets-number (part 0 8 r) (octets-part 0 8 r h))
    (ap (λ (k : ℕ). octets k (number (part 8 2 r))) (sym left) ∙ octets-number (part 8 2 r) (octets-part 8 2 r h))
    ∙ sym (take-add 8 2 r)
    ∙ take_all 10 r (omega arith)

octets-rows : (rs : List (List ℕ)) → Wide lock_width rs → All Octets rs → map lock_octets (map lock_from rs) ≡ rs
unfolding Wide
octets-rows [] w h = refl
octets-rows (r ∷ rs) w h = ap₂ ◌∷◌ (octets-lock r w.0 h.0) (octets-rows rs w.1 h.1)

-- the locks of a store, as octets, are the octets of the store
pub octets-locks-in : (n : ℕ) (p : List ℕ) → Octets p → lock_width * n ≤ length p → locks_octets (locks_in n p) ≡ take (lock_width * n) p
unfolding locks_octets locks_in
octets-locks-in n p h l =
    ap joined (octets-rows (rows n lock_width p) (rows-wide n lock_width p l) (rows-octets n lock_width p h))
    ∙ joined-rows n lock_width p

-- written where they were read, they change nothing
pub put-locks-in : (n : ℕ) (p : List ℕ) → Octets p → lock_width * n ≤ length p → put 0 (locks_octets (locks_in n p)) p ≡ p
unfolding part
put-locks-in n p h l = ap (λ (r : List ℕ). put 0 r p) (octets-locks-in n p h l) ∙ put-part 0 (lock_width * n) p

-- ---- from locks to octets and back

pub lock-octets : (l : Lock) → LockFits l → lock_from (lock_octets l) ≡ l
unfolding lock_octets lock_from u16_at part
lock-octets l f =
    let u : length (octets 8 l.uid) ≡ 8 = octets-length 8 l.uid in
    let t : length (octets 2 l.left) ≡ 2 = octets-length 2 l.left in
    let e : number (take 8 (octets 8 l.uid ++ octets 2 l.left)) ≡ l.uid = rw (take_at (octets 8 l.uid) (octets 2 l.left) 8 u) (number-octets 8 l.uid f.uid) in
    let g : number (take 2 (drop 8 (octets 8 l.uid ++ octets 2 l.left))) ≡ l.left = rw (drop_at (octets 8 l.uid) (octets 2 l.left) 8 u, take_all 2 (octets 2 l.left) (omega arith)) (number-octets 2 l.left f.left) in
    ap₂ (λ (x y : ℕ). record { uid = x; left = y }) e g

locks-rows : (ls : List Lock) → All LockFits ls → map lock_from (map lock_octets ls) ≡ ls
locks-rows [] f = refl
locks-rows (l ∷ ls) f = ap₂ ◌∷◌ (lock-octets l f.0) (locks-rows ls f.1)

-- what was written is read back
pub locks-put : (ls : List Lock) (p : List ℕ) → All LockFits ls → lock_width * length ls ≤ length p → locks_in (length ls) (put 0 (locks_octets ls) p) ≡ ls
unfolding locks_in locks_octets
locks-put ls p f h =
    let e : length (map lock_octets ls) ≡ length ls = length-map ls lock_octets in
    ap (λ (n : ℕ). map lock_from (rows n lock_width (put 0 (joined (map lock_octets ls)) p))) (sym e)
    ∙ ap (map lock_from) (rows-joined lock_width (map lock_octets ls) p (octets-wide ls) (rw e h))
    ∙ locks-rows ls f

-- ---- numbers that fit

pub lock-fits : (r : List ℕ) → length r ≡ lock_width → Octets r → LockFits (lock_from r)
unfolding lock_from u16_at
lock-fits r e h =
    let u : length (part 0 8 r) ≡ 8 = part_length 0 8 r (omega arith) in
    let t : length (part 8 2 r) ≡ 2 = part_length 8 2 r (omega arith) in
    record {
      uid = rw u at (number_lt (part 0 8 r) (octets-part 0 8 r h));
      left = rw t at (number_lt (part 8 2 r) (octets-part 8 2 r h));
    }

rows_fit : (rs : List (List ℕ)) → Wide lock_width rs → All Octets rs → All LockFits (map lock_from rs)
unfolding Wide
rows_fit [] w h = tt
rows_fit (r ∷ rs) w h = (lock-fits r w.0 h.0, rows_fit rs w.1 h.1)

pub locks-in-fit : (n : ℕ) (p : List ℕ) → Octets p → lock_width * n ≤ length p → All LockFits (locks_in n p)
unfolding locks_in
locks-in-fit n p h l = rows_fit (rows n lock_width p) (rows-wide n lock_width p l) (rows-octets n lock_width p h)
