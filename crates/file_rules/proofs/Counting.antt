-- Steps, counted in one pass over the scripts.
use Rattle.std.proofs.Common.{◌≡◌, ◌∙◌, ◌*◌, ◌||◌, ℕ, Bool, List, [], ◌∷◌, map, codes, refl, sym, ap, arith, sum_by, if◌then◌else◌}
use Rattle.std.proofs.lemmas.Grind.{common_steps}
use Rattle.std.specs.List.{list_any}
use Rattle.serde_json.specs.Data.{Data}
use Rattle.sleep_model.specs.declared.machine.Op.{Op}
use Rattle.sleep_model.specs.declared.machine.Script.{Script}
use Rattle.sleep_model.specs.Places.{is_link_step as adds_link, is_state}
use Rattle.borrowed_json.specs.Look.{has_text, list_in}
use Rattle.file_rules.specs.declared.rules.limits.Steps.{Steps}
use Rattle.file_rules.specs.Counted.{any_op, any_step, capped, has_autosleep_step, repeated_steps, steps_made, steps_of_actors, steps_of_script, steps_of_scripts, steps_once, times_made, writes_autosleep}
use Rattle.file_rules.specs.Limits.{has_autosleep, is_link_step, is_state_step, repeat_of, script_steps, times_if, times_of}
use Rattle.file_rules.specs.Operations.{Known, known_of, whole_op, whole_script, whole_scripts, whole_step}
use Rattle.file_rules.proofs.Placing.{any_map}
use Rattle.file_rules.proofs.ScriptsValid.{autosleep_in_file, link_in_file, state_in_file, sum_map, sum_same}

-- a product of what is capped
product : (n t : ℕ) → capped (n * capped t) ≡ capped (n * t)
product n t = grind (arith, common_steps)

abbrev steps : ℕ → ℕ → ℕ → Bool → Steps
steps all state link autosleep = record { all = all; state = state; link = link; autosleep = autosleep }

same : (a b c x y z : ℕ) (autosleep : Bool) → a ≡ x → b ≡ y → c ≡ z → steps a b c autosleep ≡ steps x y z autosleep
same a b c x y z autosleep e f g = rw (e, f, g) refl

-- a script's steps are those that it makes once, made so often
pub of_script : (s : Script) → repeated_steps s.repeat (steps_once s.steps) ≡ steps_of_script s
of_script s =
    same _ _ _ _ _ _ (has_autosleep_step s) (product s.repeat (sum_by (times_made any_op) s.steps)) (product s.repeat (sum_by (times_made is_state) s.steps))
    (product s.repeat (sum_by (times_made adds_link) s.steps))

any_same : {X : Type 0} (p q : X → Bool) (xs : List X) → ((x : X) → p x ≡ q x) → list_any p xs ≡ list_any q xs
any_same p q [] e = refl
any_same p q (x ∷ xs) e = ap (λ b. b || list_any p xs) (e x) ∙ ap (λ b. q x || b) (any_same p q xs e)

-- operations that differ by their data are counted by it
module _ (known : Known) (p : Op → Bool) (test : Data → Bool) (told : (o : Data) → p (whole_op known o) ≡ test o) where
  counted_script : (a : Data) → steps_made p (whole_script known a) ≡ script_steps test a
  counted_script a =
      let script = list_in (codes "script") a in
      ap (λ (n : ℕ). repeat_of a * n)
      (sum_map (times_made p) (whole_step known) script
      ∙ sum_same (λ o. times_made p (whole_step known o)) (times_if test) script (λ o. ap (λ (b : Bool). if b then times_of o else 0) (told o)))

  counted_scripts : (actors : List Data) → sum_by (steps_made p) (map (whole_script known) actors) ≡ sum_by (script_steps test) actors
  counted_scripts actors =
      sum_map (steps_made p) (whole_script known) actors ∙ sum_same (λ a. steps_made p (whole_script known a)) (script_steps test) actors counted_script

autosleep_counted : (known : Known) (actors : List Data) → list_any has_autosleep_step (map (whole_script known) actors) ≡ list_any has_autosleep actors
autosleep_counted known actors =
    sym (any_map has_autosleep_step (whole_script known) actors)
    ∙ any_same (λ a. has_autosleep_step (whole_script known a)) has_autosleep actors
    (λ a. sym (any_map writes_autosleep (whole_step known) (list_in (codes "script") a))
    ∙ any_same (λ o. writes_autosleep (whole_step known o)) (has_text (codes "op") (codes "autosleep")) (list_in (codes "script") a) (autosleep_in_file known))

-- the scripts of a file make the steps that it says
pub steps_counted : (file : Data) → steps_of_scripts (whole_scripts file) ≡ steps_of_actors (list_in (codes "actors") file)
steps_counted file =
    let known = known_of file in
    let actors = list_in (codes "actors") file in
    same _ _ _ _ _ _ (list_any has_autosleep_step (map (whole_script known) actors))
    (ap capped (counted_scripts known any_op any_step (λ o. refl) actors))
    (ap capped (counted_scripts known is_state is_state_step (state_in_file known) actors))
    (ap capped (counted_scripts known adds_link is_link_step (link_in_file known) actors))
    ∙ ap (steps (capped (sum_by (script_steps any_step) actors)) (capped (sum_by (script_steps is_state_step) actors)) (capped (sum_by (script_steps is_link_step) actors)))
    (autosleep_counted known actors)
