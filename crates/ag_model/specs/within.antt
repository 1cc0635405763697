pub mod FitsByPlace
pub mod StepFits
pub mod TypePlans
