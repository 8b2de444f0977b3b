-- Places in any list: the one that stands at a place still does if the list is longer, or mapped.
use Rattle.std.specs.Prelude.{ℕ, suc, ◌+◌, ◌<◌, ◌≡◌, refl, List, [], ◌∷◌, ◌++◌, map, length, take, drop, get_or}
use Rattle.std.proofs.Common.{sym, ap, ◌∙◌, append_assoc, arith, length-append, length-take-le}
use Rattle.std.proofs.lemmas.List.{length-map}
use Rattle.std.proofs.Math.Seq.{split_at, take-append_seam}
use Rattle.paper.specs.NumberedLaws.{Every, every_append}
use Rattle.levels.specs.RowLaws.{Placed}

module _ {A : Type 0} where
  pub placed_at : (list : List A) (i : ℕ) (default : A) → i < length list → Placed list i (get_or list i default)
  placed_at list i default h = record {
    front = take i list;
    later = drop (suc i) list;
    split = sym (split_at list i default h);
    place = sym (length-take-le i list (omega arith));
  }

  pub placed_front : {list : List A} {i : ℕ} {one : A} (placed : Placed list i one) → take i list ≡ placed.front
  placed_front {list} {i} {one} placed = rw (← placed.split, placed.place) (take-append_seam placed.front (one ∷ placed.later))

  pub placed_below : {list : List A} {i : ℕ} {one : A} → Placed list i one → i < length list
  placed_below {list} {i} {one} placed =
      omega (arith, placed.place, length-append placed.front (one ∷ placed.later), ap length placed.split)

  pub placed_before : {list : List A} {i : ℕ} {one : A} (more : List A) → Placed list i one → Placed (list ++ more) i one
  placed_before {list} {i} {one} more placed = record {
    front = placed.front;
    later = placed.later ++ more;
    split = sym (append_assoc placed.front (one ∷ placed.later) more) ∙ ap (λ (l : List A). l ++ more) placed.split;
    place = placed.place;
  }

  pub placed_behind : {list : List A} {i : ℕ} {one : A} (first : List A) → Placed list i one → Placed (first ++ list) (length first + i) one
  placed_behind {list} {i} {one} first placed = record {
    front = first ++ placed.front;
    later = placed.later;
    split = append_assoc first placed.front (one ∷ placed.later) ∙ ap (λ (l : List A). first ++ l) placed.split;
    place = rw (length-append first placed.front, ← placed.place);
  }

  -- what holds of all holds of the one in its place
  pub every_placed : (P : A → Type 0) {list : List A} {i : ℕ} {one : A} → Every P list → Placed list i one → P one
  every_placed P {list} {i} {one} each placed =
      (every_append P placed.front (one ∷ placed.later) (rw placed.split each)).1.0

pub placed_map : {A B : Type 0} (f : A → B) {list : List A} {i : ℕ} {one : A} → Placed list i one → Placed (map f list) i (f one)
placed_map {A} {B} f {list} {i} {one} placed = record {
  front = map f placed.front;
  later = map f placed.later;
  split = sym (map_split placed.front) ∙ ap (map f) placed.split;
  place = placed.place ∙ sym (length-map placed.front f);
}
  where
    map_split : (front : List A) → map f (front ++ one ∷ placed.later) ≡ map f front ++ f one ∷ map f placed.later
    map_split [] = refl
    map_split (x ∷ front) = rw (map_split front)
