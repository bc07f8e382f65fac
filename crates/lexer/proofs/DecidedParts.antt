-- Each part of a token goes by its own bytes and the two after it.
use Rattle.std.proofs.Common.{Option, None, ◌≡◌, ℕ, zero, suc, ◌+◌, ◌≤◌, Bool, true, false, cond, ◌&&◌, ◌||◌, eqb, List, [], ◌∷◌, ◌++◌, length, refl, ap, ◌∙◌, arith}
use Rattle.lexer.proofs.Decided.{Decided, alike, chosen}
use Rattle.lexer.specs.Class.{backslash, ident_cont, ident_start, line_blank}
use Rattle.lexer.specs.Comment.{closes, comment, comment_closed, comment_extent, opens}
use Rattle.lexer.specs.Extent.{Extent, further}
use Rattle.lexer.specs.Cursor.{digit_met, digits, identifier, leads, run}
use Rattle.lexer.specs.Dollar.{begins, delimited, delimited_closed, delimited_extent}
use Rattle.lexer.specs.PsqlArg.{after, arguments, is_parenthesis, last_after, options, separates, stops}
use Rattle.lexer.specs.Quoted.{quoted_extent, quoted, quoted_closed}
use Rattle.lexer.specs.declared.psql_arg.ArgState.{ArgState}
use Rattle.lexer.specs.declared.psql_arg.ArgState.TheVariants.{Outside}
use Rattle.std.proofs.lemmas.List.{length-append}
use Rattle.std.proofs.lemmas.Bool.{cond_both}

-- the same, where what is chosen holds the count
alike_by : {Y : Type 0} (count : Y → ℕ) (b : Bool) {l : ℕ} {y z u v : Y} → (count u + 2 ≤ l → y ≡ u) → (count v + 2 ≤ l → z ≡ v) → count (cond b u v) + 2 ≤ l → cond b y z ≡ cond b u v
alike_by count true f g h = f h
alike_by count false f g h = g h

pub run_decided : (class : ℕ → Bool) → Decided (run class) (run class)
unfolding run
run_decided class [] s t h = absurd (omega arith)
run_decided class (x ∷ p) s t h = alike (class x) (1 + run class (p ++ s)) 0 (λ k. ap (λ n. 1 + n) (run_decided class p s t (omega arith))) (λ _. refl) h

leads_decided : (class : ℕ → Bool) (f : List ℕ → ℕ) → Decided f (leads class)
leads_decided class f [] s t h = absurd (omega arith)
leads_decided class f (x ∷ p) s t h = refl

pub identifier_decided : Decided identifier identifier
identifier_decided = chosen (leads ident_start) (run ident_cont) (λ _. 0) (run ident_cont) (λ _. 0) (leads_decided ident_start identifier) (run_decided ident_cont) (λ _ _ _ _. refl)

module _ (digit : ℕ → Bool) where
  pub digits_decided : Decided (digits digit) (digits digit)
  unfolding digits
  digits_decided [] s t h = absurd (omega arith)
  digits_decided (x ∷ []) s t h = absurd (omega arith)
  digits_decided (x ∷ y ∷ p) s t h =
      alike (digit x || (eqb x 95 && digit y)) (1 + digits digit (y ∷ p ++ s)) 0 (λ k. ap (λ n. 1 + n) (digits_decided (y ∷ p) s t (omega arith))) (λ _. refl) h

  met_alike : (a b : Bool) (n l : ℕ) {y z : Bool} → (n + 2 ≤ l → y ≡ z) → cond (a || b) n 0 + 2 ≤ l → cond a true (cond b y false) ≡ cond a true (cond b z false)
  met_alike true b n l f h = refl
  met_alike false true n l f h = f h
  met_alike false false n l f h = refl

  pub met_decided : Decided (digits digit) (digit_met digit)
  unfolding digits digit_met
  met_decided [] s t h = absurd (omega arith)
  met_decided (x ∷ []) s t h = absurd (omega arith)
  met_decided (x ∷ y ∷ p) s t h = met_alike (digit x) (eqb x 95 && digit y) (1 + digits digit (y ∷ p ++ s)) (length (x ∷ y ∷ p)) (λ k. met_decided (y ∷ p) s t (omega arith)) h

pub comment_extent_decided : (d : ℕ) → Decided (comment d) (comment_extent d)
unfolding comment_extent
comment_extent_decided zero p s t h = refl
comment_extent_decided (suc d) [] s t h = absurd (omega arith)
comment_extent_decided (suc d) (a ∷ []) s t h = absurd (omega arith)
comment_extent_decided (suc d) (a ∷ b ∷ p) s t h =
    alike_by (λ e. e.len) (opens a b)
    (λ k. ap (further 2) (comment_extent_decided (suc (suc d)) p s t (omega arith)))
    (alike_by (λ e. e.len) (closes a b)
    (λ k. ap (further 2) (comment_extent_decided d p s t (omega arith)))
    (λ k. ap (further 1) (comment_extent_decided (suc d) (b ∷ p) s t (omega arith)))) h

pub comment_decided : (d : ℕ) → Decided (comment d) (comment d)
comment_decided d p s t h = ap (λ e. e.len) (comment_extent_decided d p s t h)

pub comment_closed_decided : (d : ℕ) → Decided (comment d) (comment_closed d)
comment_closed_decided d p s t h = ap (λ e. e.closed) (comment_extent_decided d p s t h)

module _ (quote : ℕ) (escapes : Bool) where
  quoted_extent_decided : Decided (quoted quote escapes) (quoted_extent quote escapes)
  unfolding quoted_extent
  quoted_extent_decided [] s t h = absurd (omega arith)
  quoted_extent_decided (x ∷ []) s t h = absurd (omega arith)
  quoted_extent_decided (x ∷ y ∷ p) s t h =
      alike_by (λ e. e.len) (eqb x quote && eqb y quote)
      (λ k. ap (further 2) (quoted_extent_decided p s t (omega arith)))
      (alike_by (λ e. e.len) (eqb x quote) (λ _. refl)
      (alike_by (λ e. e.len) (escapes && backslash x)
      (λ k. ap (further 2) (quoted_extent_decided p s t (omega arith)))
      (λ k. ap (further 1) (quoted_extent_decided (y ∷ p) s t (omega arith))))) h

  pub quoted_decided : Decided (quoted quote escapes) (quoted quote escapes)
  quoted_decided p s t h = ap (λ e. e.len) (quoted_extent_decided p s t h)

  pub quoted_closed_decided : Decided (quoted quote escapes) (quoted_closed quote escapes)
  quoted_closed_decided p s t h = ap (λ e. e.closed) (quoted_extent_decided p s t h)

pub arguments_decided : (state : ArgState) → Decided (arguments state) (arguments state)
unfolding arguments
arguments_decided state [] s t h = absurd (omega arith)
arguments_decided state (x ∷ p) s t h =
    alike (stops state x) 0 (1 + arguments (after state x) (p ++ s)) (λ _. refl) (λ k. ap (λ n. 1 + n) (arguments_decided (after state x) p s t (omega arith))) h

pub options_decided : (state : ArgState) (last : Option ℕ) → Decided (options state last) (options state last)
unfolding options
options_decided state last [] s t h = absurd (omega arith)
options_decided state last (x ∷ p) s t h =
    let next = 1 + options Outside None (p ++ s) in
    let blanks = run line_blank (x ∷ p ++ s) in
    let more = 1 + options (after state x) (last_after state last x) (p ++ s) in
    alike (stops state x) 0 (cond (separates state x && is_parenthesis last) blanks (cond (separates state x) next more)) (λ _. refl)
    (alike (separates state x && is_parenthesis last) blanks (cond (separates state x) next more) (run_decided line_blank (x ∷ p) s t)
    (alike (separates state x) next more
    (λ k. ap (λ n. 1 + n) (options_decided Outside None p s t (omega arith)))
    (λ k. ap (λ n. 1 + n) (options_decided (after state x) (last_after state last x) p s t (omega arith))))) h

-- a delimiter is found, or not, within as many bytes as it has
begins_front : (ds p s t : List ℕ) → length ds ≤ length p → begins ds (p ++ t) ≡ begins ds (p ++ s)
unfolding begins
begins_front [] p s t h = refl
begins_front (d ∷ ds) [] s t h = absurd (omega arith)
begins_front (d ∷ ds) (x ∷ p) s t h = ap (λ b. eqb d x && b) (begins_front ds p s t (omega arith))

-- a string that ends before the list does ends with its delimiter
delimited_whole : (ds xs : List ℕ) → suc (delimited ds xs) ≤ length xs → length ds ≤ delimited ds xs
unfolding delimited_extent
delimited_whole ds [] = λ h. absurd (omega arith)
delimited_whole ds (x ∷ xs) =
    cond_both {A = Extent} (begins ds (x ∷ xs)) _ _ (λ e. suc e.len ≤ length (x ∷ xs) → length ds ≤ e.len)
    (λ _ h. omega arith)
    (λ _ h. let more = delimited_whole ds xs (omega arith) in omega arith)

module _ (ds : List ℕ) where
  delimiter_fits : (p s : List ℕ) → delimited ds (p ++ s) + 2 ≤ length p → length ds ≤ length p
  delimiter_fits p s h =
      let all = length-append p s in
      let whole = delimited_whole ds (p ++ s) (omega arith) in
      omega arith

  extent_decided : Decided (delimited ds) (delimited_extent ds)
  unfolding delimited_extent
  extent_decided [] s t h = absurd (omega arith)
  extent_decided (x ∷ p) s t h =
      ap (λ b. cond b (record { len = length ds; closed = true }) (further 1 (delimited_extent ds (p ++ t)))) (begins_front ds (x ∷ p) s t (delimiter_fits (x ∷ p) s h))
      ∙ alike_by (λ e. e.len) (begins ds (x ∷ p ++ s)) (λ _. refl) (λ k. ap (further 1) (extent_decided p s t (omega arith))) h

  pub delimited_decided : Decided (delimited ds) (delimited ds)
  delimited_decided p s t h = ap (λ e. e.len) (extent_decided p s t h)

  pub delimited_closed_decided : Decided (delimited ds) (delimited_closed ds)
  delimited_closed_decided p s t h = ap (λ e. e.closed) (extent_decided p s t h)
