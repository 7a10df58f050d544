-- Messages without the forms that common readers reject.
pub mod LaxForms
pub mod Looking
pub mod FirstLax
pub mod Faults
pub mod Padless
pub mod Copies
pub mod Unamplified
pub mod Amplified
