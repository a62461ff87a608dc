use Rattle.engine_tests.proofs.tests.attempts.courses.play.Goals as goal

pub steps-preserved-in-Some : goal.steps-preserved-in-Some
steps-preserved-in-Some c = (c.make.ensures.lives, c.in_ok-course-in-Some.ensures.made.at)

pub steps-preserved : goal.steps-preserved
steps-preserved c = (c.make-in-Reads.ensures.lives, c.in_ok-course-in-Reads.ensures.made.at)
